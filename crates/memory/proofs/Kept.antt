-- No write changes the size.
use Rattle.std.proofs.Common.{◌≡◌, ℕ, length, arith, length-set}
use Rattle.std.proofs.lemmas.Bool.Decides.{nat_tests}
use Rattle.memory.specs.declared.cell.Cell.{Cell}
use Rattle.memory.specs.Memory.{Memory, written}

pub size_kept : (m : Memory) (a : ℕ) (c : Cell) → length (written m a c).cells ≡ length m.cells
size_kept m a c = let size = length-set m.cells a c in grind (arith, nat_tests)
