-- The cells of a block that was put: its own bytes where it lies, and elsewhere what was there before.
use Rattle.std.proofs.Common.{◌≡◌, ℕ, zero, suc, ◌+◌, ◌<◌, ◌≤◌, ◌⊎◌, List, [], ◌∷◌, length, get_or, set, Ok, Err, Result, sym, refl, ◌∙◌, inl, arith, length-set}
use Rattle.std.proofs.lemmas.List.{get_or-set_same, get_or-set_other}
use Rattle.std.proofs.lemmas.Bool.Decides.{nat_tests}
use Rattle.memory.specs.declared.cell.Cell.{Cell}
use Rattle.memory.specs.declared.fault.StoreFault.{StoreFault}
use Rattle.memory.specs.Memory.{Memory, cell, blank, looked, holding}
use Rattle.memory.specs.Blocks.{placed, block_answer, block_written}
use Rattle.memory.specs.Laws.{InARow, AllOrNothing}
use Rattle.memory.proofs.Blocks.{Accepted, accepted, answer_accepted, room, refused_at_lowest, all_placed, left_as_it_was, byte_accepted, byte_written, last_byte}

-- the size is as it was
placed_length : (cells : List Cell) (a : ℕ) (bs : List ℕ) (label : ℕ) → length (placed cells a bs label) ≡ length cells
placed_length cells a [] label = refl
placed_length cells a (b ∷ bs) label = placed_length (set cells a (cell b label)) (a + 1) bs label ∙ length-set cells a (cell b label)

-- outside the row the cells are as they were
placed_elsewhere : (cells : List Cell) (a : ℕ) (bs : List ℕ) (label place : ℕ) (d : Cell) → (place < a) ⊎ (a + length bs ≤ place) → get_or (placed cells a bs label) place d ≡ get_or cells place d
placed_elsewhere cells a [] label place d h = refl
placed_elsewhere cells a (b ∷ bs) label place d h =
    placed_elsewhere (set cells a (cell b label)) (a + 1) bs label place d (grind arith) ∙ get_or-set_other cells a place (cell b label) d (λ same. grind arith)

-- in the row they are the bytes
placed_here : (cells : List Cell) (a : ℕ) (bs : List ℕ) (label i : ℕ) (d : Cell) → i < length bs → a + length bs ≤ length cells → get_or (placed cells a bs label) (a + i) d ≡ cell (get_or bs i 0) label
placed_here cells a [] label i d h room = absurd (omega arith)
placed_here cells a (b ∷ bs) label zero d h room =
    let here : a + 0 ≡ a = omega arith in
    rw here (placed_elsewhere (set cells a (cell b label)) (a + 1) bs label a d (inl (omega arith)) ∙ get_or-set_same cells a (cell b label) d (omega arith))
placed_here cells a (b ∷ bs) label (suc i) d h room =
    let next : a + suc i ≡ a + 1 + i = omega arith in
    let size = length-set cells a (cell b label) in
    rw next (placed_here (set cells a (cell b label)) (a + 1) bs label i d (omega arith) (omega arith))

-- the same of looks
module _ (m : Memory) (a : ℕ) (bs : List ℕ) (label : ℕ) where
  looked_here : a + length bs ≤ length m.cells → (i : ℕ) → i < length bs → looked (placed m.cells a bs label) (a + i) ≡ Ok (cell (get_or bs i 0) label)
  looked_here fits i below =
      let size = placed_length m.cells a bs label in
      let here = placed_here m.cells a bs label i blank below fits in
      grind (arith, nat_tests)

  looked_elsewhere : (b : ℕ) → (b < a) ⊎ (a + length bs ≤ b) → looked (placed m.cells a bs label) b ≡ looked m.cells b
  looked_elsewhere b apart =
      let size = placed_length m.cells a bs label in
      let there = placed_elsewhere m.cells a bs label b blank apart in
      grind (arith, nat_tests)

  -- a block that was accepted lies in a row
  pub in_a_row : Accepted m a (length bs) → InARow m (holding m (placed m.cells a bs label)) a bs label
  in_a_row ok =
      let free_cells = room m.cells a (length bs) ok.0 in
      record { here = λ i below. looked_here (omega arith) i below; elsewhere = looked_elsewhere; protection = refl }

  -- and one that was refused left nothing behind
  pub all_or_nothing : (r : Result (Unit {0}) StoreFault) → r ≡ block_answer m a (length bs) → (after : Memory) → after ≡ block_written m a bs label → AllOrNothing r m after a bs label
  all_or_nothing (Ok u) e after left =
      let ok = accepted m a (length bs) u e in
      rw (left, ← all_placed m a bs label ok) (in_a_row ok)
  all_or_nothing (Err f) e after left = left ∙ sym (left_as_it_was m a bs label f e)

pub ruleset writing = (accepted, answer_accepted, refused_at_lowest, left_as_it_was, all_placed, byte_accepted, byte_written, last_byte, all_or_nothing)
