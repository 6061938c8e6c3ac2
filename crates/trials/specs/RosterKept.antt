-- Ranks in a table keep the laws of a labelling, since plain ranks do.
-- Assumes nothing.
use Rattle.std.specs.Prelude.{◌≡◌, ℕ, max, List}
use Rattle.std.proofs.Common.{ap, ◌∙◌, arith}
use Rattle.std.proofs.lemmas.Bool.Decides.{nat_tests}
use Rattle.labels.specs.Laws.{OpenToAll, SeenAsBoth}
use Rattle.labels.specs.Ranks.{up_to}
use Rattle.labels.specs.RanksKept.{seen_as_both as ranks_seen_as_both}
use Rattle.trials.specs.Roster.{rank, senior, outranked}

module _ (ranks : List ℕ) where
  pub open_to_all : OpenToAll (outranked ranks)
  open_to_all reader = grind (arith, nat_tests)

  -- the rank of a join is the larger of the two
  senior_rank : (a b : ℕ) → rank ranks (senior ranks a b) ≡ max (rank ranks a) (rank ranks b)
  senior_rank a b = grind (arith, nat_tests)

  pub seen_as_both : SeenAsBoth (senior ranks) (outranked ranks)
  seen_as_both reader a b = ap (up_to (rank ranks reader)) (senior_rank a b) ∙ ranks_seen_as_both (rank ranks reader) (rank ranks a) (rank ranks b)
