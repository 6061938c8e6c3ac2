-- A block of bytes, byte by byte.
use Rattle.std.proofs.Common.{◌≡◌, ℕ, suc, ◌+◌, ◌-◌, ◌<◌, ◌≤◌, ltb, List, ◌∷◌, length, get_or, drop, set, Some, None, Ok, Err, Option, Result, refl, ap, ◌∙◌, arith, length-set}
use Rattle.std.proofs.lemmas.List.{at_drop_more, at_drop_all}
use Rattle.std.proofs.lemmas.Bool.Decides.{nat_tests}
use Rattle.memory.specs.declared.cell.Cell.{Cell}
use Rattle.memory.specs.declared.fault.StoreFault.{StoreFault}
use Rattle.memory.specs.declared.fault.StoreFault.TheVariants.{Outside, Protected}
use Rattle.memory.specs.Memory.{Memory, cell, inside, holding, write_answer, written}
use Rattle.memory.specs.Blocks.{first_failing, refused_at, all_inside, all_free, free, placed, block_answer, block_written}
use Rattle.memory.specs.Laws.{RefusedAtLowest}
use Rattle.memory.proofs.Failing.{first_outside, none_step, all_pass, lowest_failing}

-- all addresses are inside, and all are unprotected
abbrev pub Accepted : Memory → ℕ → ℕ → Type 0
Accepted m a count = (first_failing (inside m.cells) a count ≡ None) × (first_failing (free m) a count ≡ None)

-- a first question that is not answered with a refusal found no address outside,
pub none_found : (cells : List Cell) (a count : ℕ) (u : Unit {0}) → Ok u ≡ all_inside cells a count (Ok tt) → first_failing (inside cells) a count ≡ None
none_found cells a count u e = grind arith

-- and then as many cells are there
pub room : (cells : List Cell) (a count : ℕ) → first_failing (inside cells) a count ≡ None → count ≤ length cells - a
room cells a count e = let past = first_outside cells a count in grind arith

-- both in one
pub fits : (cells : List Cell) (a count : ℕ) (u : Unit {0}) → Ok u ≡ all_inside cells a count (Ok tt) → count ≤ length cells - a
fits cells a count u e = room cells a count (none_found cells a count u e)

-- the answers of the two questions are those of the block
module _ (m : Memory) (a count : ℕ) where
  pub answer_outside : (f : StoreFault) → Err f ≡ all_inside m.cells a count (Ok (tt {0})) → Err f ≡ block_answer m a count
  unfolding block_answer
  answer_outside f e = grind arith

  pub answer_free : first_failing (inside m.cells) a count ≡ None → (r : Result (Unit {0}) StoreFault) → r ≡ all_free m a (a + count - a) (Ok tt) → r ≡ block_answer m a count
  unfolding block_answer
  answer_free none r e =
      let counted : a + count - a ≡ count = omega arith in
      grind arith

  pub answer_accepted : Accepted m a count → Ok tt ≡ block_answer m a count
  unfolding block_answer
  answer_accepted ok = grind arith

  pub accepted : (u : Unit {0}) → Ok u ≡ block_answer m a count → Accepted m a count
  unfolding block_answer
  accepted u e = (grind arith, grind arith)

pub ruleset questions = (none_found, fits, answer_outside, answer_free)

-- and they tell the lowest address that fails
pub refused_at_lowest : (m : Memory) (a count : ℕ) (r : Result (Unit {0}) StoreFault) → r ≡ block_answer m a count → RefusedAtLowest m a (a + count) r
unfolding block_answer
refused_at_lowest m a count r e = by r (first_failing (inside m.cells) a count) refl (first_failing (free m) a count) refl e
  where
    by : (r : Result (Unit {0}) StoreFault) (outside : Option ℕ) → first_failing (inside m.cells) a count ≡ outside → (shut : Option ℕ) → first_failing (free m) a count ≡ shut → r ≡ refused_at Outside outside (refused_at Protected shut (Ok tt)) → RefusedAtLowest m a (a + count) r
    by r (Some b) h shut k e = rw e (lowest_failing (inside m.cells) a count b h)
    by r None h (Some b) k e = rw e (all_pass (inside m.cells) a count h, lowest_failing (free m) a count b k)
    by r None h None k e = rw e (all_pass (inside m.cells) a count h, all_pass (free m) a count k)

-- what a block leaves
module _ (m : Memory) (a : ℕ) (bs : List ℕ) (label : ℕ) where
  pub left_as_it_was : (f : StoreFault) → Err f ≡ block_answer m a (length bs) → m ≡ block_written m a bs label
  unfolding block_written
  left_as_it_was f e = grind arith

  pub all_placed : Accepted m a (length bs) → holding m (placed m.cells a bs label) ≡ block_written m a bs label
  unfolding block_written
  all_placed ok = let answer = answer_accepted m a (length bs) ok in grind arith

-- the first byte of an accepted block is written, and the others are still accepted
module _ (m : Memory) (a count : ℕ) (ok : Accepted m a (suc count)) where
  first_accepted : write_answer m a ≡ Ok tt
  first_accepted =
      let within = none_step (inside m.cells) a count ok.0 in
      let open_to_it = none_step (free m) a count ok.1 in
      grind (arith, nat_tests)

  first_written : (c : Cell) → written m a c ≡ holding m (set m.cells a c)
  first_written c = let answer = first_accepted in grind arith

  others_accepted : (c : Cell) → Accepted (holding m (set m.cells a c)) (a + 1) count
  others_accepted c = (
    ap (λ size. first_failing (λ b. ltb b size) (a + 1) count) (length-set m.cells a c) ∙ (none_step (inside m.cells) a count ok.0).1,
    (none_step (free m) a count ok.1).1,
  )

-- one byte more of a block
module _ (bs : List ℕ) (i a label : ℕ) (more : i < length bs) (m : Memory) where
  next_byte : drop i bs ≡ get_or bs i 0 ∷ drop (i + 1) bs
  next_byte = at_drop_more (λ (left : List ℕ). left) bs i 0 more

  module _ (ok : Accepted m a (length (drop i bs))) where
    split : Accepted m a (suc (length (drop (i + 1) bs)))
    split = rw next_byte at ok

    pub byte_accepted : write_answer m a ≡ Ok tt
    byte_accepted = first_accepted m a (length (drop (i + 1) bs)) split

    pub byte_written : (after : Memory) → after ≡ written m a (cell (get_or bs i 0) label) → Accepted after (a + 1) (length (drop (i + 1) bs)) × (holding after (placed after.cells (a + 1) (drop (i + 1) bs) label) ≡ holding m (placed m.cells a (drop i bs) label))
    byte_written after e =
        let c = cell (get_or bs i 0) label in
        let is = e ∙ first_written m a (length (drop (i + 1) bs)) split c in
        rw (is, next_byte) (others_accepted m a (length (drop (i + 1) bs)) split c, refl)

-- no byte more
pub last_byte : (bs : List ℕ) (i a label : ℕ) (all : length bs ≤ i) (m : Memory) → holding m (placed m.cells a (drop i bs) label) ≡ m
last_byte bs i a label all m = at_drop_all (λ (left : List ℕ). holding m (placed m.cells a left label)) bs i all
