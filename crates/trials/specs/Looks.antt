-- What a look answers after a write.
-- Assumes nothing.
use Rattle.std.specs.Prelude.{ℕ, ◌+◌, ◌-◌, Bool, false, cond, ◌&&◌, List, length, Ok, Err, Result, nat_le, nat_lt, slice_index}
use Rattle.memory.specs.declared.Cell.{Cell}
use Rattle.memory.specs.declared.StoreFault.{StoreFault}
use Rattle.memory.specs.Memory.{Memory, cell, if_ok, looked}
use Rattle.memory.specs.Blocks.{block_answer}

-- the cell, or the refusal of the write
abbrev pub then_looked : Result (Unit {0}) StoreFault → Cell → Result Cell StoreFault
then_looked (Ok u) c = Ok c
then_looked (Err f) c = Err f

-- an address of a row: from its first address on, as many as counted
abbrev pub in_row : ℕ → ℕ → ℕ → Bool
in_row first count a = nat_le first a && nat_lt a (first + count)

-- the byte of a block that was accepted where it lies, and otherwise what was there before
abbrev pub block_looked : Memory → ℕ → List ℕ → ℕ → ℕ → Result Cell StoreFault
block_looked m a bs label place = cond (if_ok (block_answer m a (length bs)) (in_row a (length bs) place) false) (Ok (cell (slice_index bs (place - a)) label)) (looked m.cells place)
