-- Labels as ranks.
-- Assumes nothing.
use Rattle.std.specs.Prelude.{ℕ, Bool, nat_le}

-- a reader sees the labels up to its own number
abbrev pub up_to : ℕ → ℕ → Bool
up_to reader label = nat_le label reader
