-- The cells of an echo line: two for each sample, the low byte first.
-- Assumes nothing.
use Rattle.std.specs.Prelude.{ℕ, ◌/◌, ◌%◌, List, [], ◌∷◌}
use Rattle.memory.specs.declared.Cell.{Cell}
use Rattle.memory.specs.Memory.{cell}

abbrev pub heard : ℕ → List ℕ → List Cell
heard label [] = []
heard label (s ∷ ss) = cell (s % 256) label ∷ cell (s / 256 % 256) label ∷ heard label ss
