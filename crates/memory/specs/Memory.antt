-- What a store means, and what a look, the question about protection and a write answer and leave.
-- Assumes nothing.
use Rattle.std.specs.Prelude.{◌≡◌, ℕ, ◌≤◌, Bool, false, cond, ◌&&◌, List, length, Ok, Err, Result, nat_lt, slice_index_or, slice_set}
use Rattle.memory.specs.declared.cell.Cell.{Cell}
use Rattle.memory.specs.declared.fault.StoreFault.{StoreFault}
use Rattle.memory.specs.declared.fault.StoreFault.TheVariants.{Outside, Protected}

-- the largest size
abbrev pub most_cells : ℕ
most_cells = 65536

-- the cells, as many as the size, and which addresses are protected
pub record Memory : Type 0 where
  pub cells : List Cell
  pub protected : ℕ → Bool

abbrev pub inside : List Cell → ℕ → Bool
inside cells a = nat_lt a (length cells)

-- nothing past the size is protected
abbrev pub Trimmed : Memory → Type 0
Trimmed m = (a : ℕ) → length m.cells ≤ a → m.protected a ≡ false

-- the memory of some cells under a protection, which means nothing past the size
abbrev pub memory_of : List Cell → (ℕ → Bool) → Memory
memory_of cells protects = record { cells = cells; protected = λ a. inside cells a && protects a }

abbrev pub cell : ℕ → ℕ → Cell
cell value label = record { value = value; label = label }

abbrev pub blank : Cell
blank = cell 0 0

-- 41 outside the size, otherwise the answer
abbrev pub if_inside : {X : Type 0} → List Cell → ℕ → Result X StoreFault → Result X StoreFault
if_inside cells a answer = cond (inside cells a) answer (Err (Outside a))

abbrev pub looked : List Cell → ℕ → Result Cell StoreFault
looked cells a = if_inside cells a (Ok (slice_index_or cells a blank))

abbrev pub asked : Memory → ℕ → Result Bool StoreFault
asked m a = if_inside m.cells a (Ok (m.protected a))

-- 41, then 42
abbrev pub write_answer : Memory → ℕ → Result (Unit {0}) StoreFault
write_answer m a = if_inside m.cells a (cond (m.protected a) (Err (Protected a)) (Ok tt))

-- what stands after an answer: a refusal leaves all as it was
abbrev pub if_ok : {X : Type 0} → Result (Unit {0}) StoreFault → X → X → X
if_ok (Ok u) after before = after
if_ok (Err f) after before = before

-- other cells under the same protection
abbrev pub holding : Memory → List Cell → Memory
holding m cells = record { cells = cells; protected = m.protected }

abbrev pub written : Memory → ℕ → Cell → Memory
written m a c = if_ok (write_answer m a) (holding m (slice_set m.cells a c)) m
