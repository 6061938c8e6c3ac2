-- The lowest address that fails a test.
use Rattle.std.proofs.Common.{◌≡◌, ℕ, zero, suc, ◌+◌, ◌-◌, ◌<◌, ◌≤◌, max, Bool, true, false, cond, not, List, length, Some, None, Ok, sym, refl, ap, ◌∙◌, arith}
use Rattle.std.proofs.lemmas.Bool.Decides.{nat_tests}
use Rattle.memory.specs.declared.cell.Cell.{Cell}
use Rattle.memory.specs.Memory.{Memory, inside, asked}
use Rattle.memory.specs.Blocks.{first_failing, free}
use Rattle.memory.specs.Laws.{AllPass, LowestFailing}

-- inside some cells: none where they all are, otherwise the first of them that is not
pub none_outside : (cells : List Cell) (a count : ℕ) → count ≤ length cells - a → first_failing (inside cells) a count ≡ None
none_outside cells a zero h = refl
none_outside cells a (suc count) h =
    let more = none_outside cells (a + 1) count (omega arith) in
    grind (arith, nat_tests)

pub first_outside : (cells : List Cell) (a count : ℕ) → length cells - a < count → first_failing (inside cells) a count ≡ Some (max a (length cells))
first_outside cells a zero h = absurd (omega arith)
first_outside cells a (suc count) h =
    let more = λ (below : a < length cells). first_outside cells (a + 1) count (omega arith) in
    grind (arith, nat_tests)

pub ruleset outsides = (none_outside, first_outside)

-- one address more of those up to an end
module _ (passes : ℕ → Bool) (a end : ℕ) (more : a < end) where
  step : first_failing passes a (end - a) ≡ cond (passes a) (first_failing passes (a + 1) (end - (a + 1))) (Some a)
  step = let counted : end - a ≡ suc (end - (a + 1)) = omega arith in ap (first_failing passes a) counted

  pub passed : passes a ≡ true → first_failing passes a (end - a) ≡ first_failing passes (a + 1) (end - (a + 1))
  passed h = let found = step in grind arith

  pub failed : passes a ≡ false → first_failing passes a (end - a) ≡ Some a
  failed h = let found = step in grind arith

-- and none are left at the end
pub at_end : (passes : ℕ → Bool) (a end : ℕ) → end ≤ a → first_failing passes a (end - a) ≡ None
at_end passes a end h = let none : end - a ≡ 0 = omega arith in ap (first_failing passes a) none

-- what an answer about protection tells of an address
pub told_free : (m : Memory) (a : ℕ) (b : Bool) → Ok b ≡ asked m a → free m a ≡ not b
told_free m a b e = grind (arith, nat_tests)

pub ruleset scan = (passed, failed, at_end, told_free)

-- none of one address and those behind it fails
pub none_step : (passes : ℕ → Bool) (a count : ℕ) → first_failing passes a (suc count) ≡ None → (passes a ≡ true) × (first_failing passes (a + 1) count ≡ None)
none_step passes a count e = (grind arith, grind arith)

-- an address that passes, and those behind it that do
with_first : (passes : ℕ → Bool) (a end : ℕ) → passes a ≡ true → AllPass passes (a + 1) end → AllPass passes a end
with_first passes a end here behind b from below =
    let later = λ (more : a + 1 ≤ b). behind b more below in
    grind arith

-- what is found is the lowest, and where nothing is found all pass
pub all_pass : (passes : ℕ → Bool) (a count : ℕ) → first_failing passes a count ≡ None → AllPass passes a (a + count)
all_pass passes a zero e = λ b from end. absurd (omega arith)
all_pass passes a (suc count) e =
    let step = none_step passes a count e in
    with_first passes a (a + suc count) step.0 (λ b from end. all_pass passes (a + 1) count step.1 b from (omega arith))

pub lowest_failing : (passes : ℕ → Bool) (a count f : ℕ) → first_failing passes a count ≡ Some f → LowestFailing passes a (a + count) f
lowest_failing passes a zero f e = absurd (grind arith)
lowest_failing passes a (suc count) f e = by (lowest_failing passes (a + 1) count f) (passes a) refl
  where
    by : (first_failing passes (a + 1) count ≡ Some f → LowestFailing passes (a + 1) (a + 1 + count) f) → (t : Bool) → passes a ≡ t → LowestFailing passes a (a + suc count) f
    by more true h =
        let behind = more (grind arith) in
        record { not_before = omega arith; before_end = omega arith; fails = behind.fails; lower = with_first passes a f h behind.lower }
    by more false h =
        let same : a ≡ f = grind arith in
        record { not_before = omega arith; before_end = omega arith; fails = ap passes (sym same) ∙ h; lower = λ b from below. absurd (omega arith) }
