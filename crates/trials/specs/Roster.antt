-- Labels by ranks in a table.
-- Assumes nothing.
use Rattle.std.specs.Prelude.{ℕ, Bool, cond, List, ◌==◌, nat_le, slice_index}
use Rattle.labels.specs.Ranks.{up_to}

-- 0 for label 0 and past the table
abbrev pub rank : List ℕ → ℕ → ℕ
rank ranks label = cond (label == 0) 0 (slice_index ranks label)

-- the label of the higher rank, and the first of two of one rank
abbrev pub senior : List ℕ → ℕ → ℕ → ℕ
senior ranks a b = cond (nat_le (rank ranks b) (rank ranks a)) a b

-- a reader sees the labels of ranks up to its own
abbrev pub outranked : List ℕ → ℕ → ℕ → Bool
outranked ranks reader label = up_to (rank ranks reader) (rank ranks label)
