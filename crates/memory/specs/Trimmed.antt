-- A memory of cells under a protection protects nothing past its size.
-- Assumes nothing.
use Rattle.std.specs.Prelude.{ℕ, Bool, List}
use Rattle.std.proofs.Common.{arith}
use Rattle.std.proofs.lemmas.Bool.Decides.{nat_tests}
use Rattle.memory.specs.declared.cell.Cell.{Cell}
use Rattle.memory.specs.Memory.{Trimmed, memory_of}

pub memory_trimmed : (cells : List Cell) (protects : ℕ → Bool) → Trimmed (memory_of cells protects)
memory_trimmed cells protects a past = grind (arith, nat_tests)
