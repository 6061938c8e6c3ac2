-- A block of bytes under one label that is to be put into consecutive cells: the answer, and the cells afterwards.
-- Assumes nothing.
use Rattle.std.specs.Prelude.{ℕ, zero, suc, ◌+◌, Bool, cond, not, List, [], ◌∷◌, length, Some, None, Ok, Err, Option, Result, slice_set}
use Rattle.memory.specs.declared.cell.Cell.{Cell}
use Rattle.memory.specs.declared.fault.StoreFault.{StoreFault}
use Rattle.memory.specs.declared.fault.StoreFault.TheVariants.{Outside, Protected}
use Rattle.memory.specs.Memory.{Memory, cell, inside, holding, if_ok}

-- the lowest address, of as many in a row from a on, that fails a test
abbrev pub first_failing : (ℕ → Bool) → ℕ → ℕ → Option ℕ
first_failing passes a zero = None
first_failing passes a (suc count) = cond (passes a) (first_failing passes (a + 1) count) (Some a)

-- the refusal at an address that failed, otherwise the next answer
abbrev pub refused_at : {X : Type 0} → (ℕ → StoreFault) → Option ℕ → Result X StoreFault → Result X StoreFault
refused_at fault (Some a) next = Err (fault a)
refused_at fault None next = next

-- 41 unless all are inside, otherwise the next answer
abbrev pub all_inside : {X : Type 0} → List Cell → ℕ → ℕ → Result X StoreFault → Result X StoreFault
all_inside cells a count next = refused_at Outside (first_failing (inside cells) a count) next

abbrev pub free : Memory → ℕ → Bool
free m a = not (m.protected a)

-- 42 unless all are unprotected, otherwise the next answer
abbrev pub all_free : {X : Type 0} → Memory → ℕ → ℕ → Result X StoreFault → Result X StoreFault
all_free m a count next = refused_at Protected (first_failing (free m) a count) next

-- 41, then 42, for as many bytes from a on
unfoldable pub block_answer : Memory → ℕ → ℕ → Result (Unit {0}) StoreFault
block_answer m a count = all_inside m.cells a count (all_free m a count (Ok tt))

-- the bytes put one after another into the cells from a on
abbrev pub placed : List Cell → ℕ → List ℕ → ℕ → List Cell
placed cells a [] label = cells
placed cells a (b ∷ bs) label = placed (slice_set cells a (cell b label)) (a + 1) bs label

unfoldable pub block_written : Memory → ℕ → List ℕ → ℕ → Memory
block_written m a bs label = if_ok (block_answer m a (length bs)) (holding m (placed m.cells a bs label)) m
