-- A look after a block, from what the block's contract says.
use Rattle.std.proofs.Common.{◌≡◌, ℕ, ◌+◌, ◌-◌, ◌<◌, ◌≤◌, Bool, cond, List, length, get_or, Ok, Err, Result, inl, inr, arith}
use Rattle.std.proofs.lemmas.Bool.Decides.{nat_tests}
use Rattle.memory.specs.declared.Cell.{Cell}
use Rattle.memory.specs.declared.StoreFault.{StoreFault}
use Rattle.memory.specs.Memory.{Memory, cell, looked}
use Rattle.memory.specs.Blocks.{block_answer}
use Rattle.memory.specs.Laws.{InARow, AllOrNothing}
use Rattle.trials.specs.Looks.{in_row, block_looked}

module _ (before after : Memory) (a : ℕ) (bs : List ℕ) (label place : ℕ) where
  -- the byte, or what was there before
  abbrev by_row : Bool → Result Cell StoreFault
  by_row inside = cond inside (Ok (cell (get_or bs (place - a) 0) label)) (looked before.cells place)

  -- by where the address lies
  after_row : InARow before after a bs label → looked after.cells place ≡ by_row (in_row a (length bs) place)
  after_row row =
      let here = λ (from : a ≤ place) (below : place < a + length bs). row.here (place - a) (omega arith) in
      let back : a ≤ place → a + (place - a) ≡ place = λ from. omega arith in
      let lower = λ (h : place < a). row.elsewhere place (inl h) in
      let past = λ (h : a + length bs ≤ place). row.elsewhere place (inr h) in
      grind (arith, nat_tests)

  -- and by the answer to the block
  pub looked_after : (r : Result (Unit {0}) StoreFault) → r ≡ block_answer before a (length bs) → AllOrNothing r before after a bs label → looked after.cells place ≡ block_looked before a bs label place
  looked_after (Ok u) e row = let looked_there = after_row row in grind arith
  looked_after (Err f) e same = grind arith
