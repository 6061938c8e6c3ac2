-- Ranks keep the laws of a labelling.
-- Assumes nothing.
use Rattle.std.specs.Prelude.{max}
use Rattle.std.proofs.Common.{arith}
use Rattle.std.proofs.lemmas.Bool.Decides.{nat_tests}
use Rattle.labels.specs.Laws.{OpenToAll, SeenAsBoth}
use Rattle.labels.specs.Ranks.{up_to}

pub open_to_all : OpenToAll up_to
open_to_all reader = grind (arith, nat_tests)

pub seen_as_both : SeenAsBoth max up_to
seen_as_both reader first second = grind (arith, nat_tests)
