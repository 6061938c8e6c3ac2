-- A split map that is taken apart after a write: its store is as the same write to it alone would leave it.
use Rattle.std.proofs.Common.{◌≡◌, ℕ, suc, ◌≤◌, List, length, set, Ok, Err, Result, sym, ◌∙◌, ap₂, ⊎_elim, arith, length-set}
use Rattle.std.proofs.lemmas.Bool.Decides.{leb_tells, nat_tests}
use Rattle.memory.specs.declared.Cell.{Cell}
use Rattle.memory.specs.declared.StoreFault.{StoreFault}
use Rattle.memory.specs.Memory.{most_cells, Memory, Trimmed, memory_of, write_answer, written, holding, if_ok}
use Rattle.memory.proofs.Kept.{size_kept}
use Rattle.stores.specs.Joints.{joined, lower_part}
use Rattle.stores.specs.Protection.{everything}
use Rattle.stores.proofs.Joints.{joined_as_parts, written_below, written_upper}

module _ (m : Memory) (a : ℕ) (c : Cell) where
  -- a write protects nothing more
  written_trimmed : Trimmed m → Trimmed (written m a c)
  written_trimmed trimmed = by (write_answer m a)
    where
      by : (r : Result (Unit {0}) StoreFault) → Trimmed (if_ok r (holding m (set m.cells a c)) m)
      by (Ok u) = λ b past. let size = length-set m.cells a c in trimmed b (omega arith)
      by (Err f) = trimmed

  -- outside the size nothing is written
  written_outside : length m.cells ≤ a → written m a c ≡ m
  written_outside past = grind (arith, nat_tests)

module _ (lower after upper : Memory) (few : length lower.cells ≤ most_cells) (same : length after.cells ≡ length lower.cells) where
  -- two wholes of one joint that are the same have the same lower part
  same_lower : Trimmed lower → Trimmed after → joined after upper ≡ joined lower upper → after ≡ lower
  same_lower trimmed still whole =
      sym (joined_as_parts.apart after upper still (omega arith)) ∙ ap₂ lower_part same whole ∙ joined_as_parts.apart lower upper trimmed few

-- the store of a map after a write through the map
pub part_written : (lower after : Memory) (ys : List Cell) (a : ℕ) (c : Cell) → length lower.cells ≤ most_cells → length after.cells ≡ length lower.cells → Trimmed lower → Trimmed after → joined after (memory_of ys everything) ≡ written (joined lower (memory_of ys everything)) a c → after ≡ written lower a c
part_written lower after ys a c few same trimmed still e =
    ⊎_elim
    (λ below.
    let kept = size_kept lower a c in
    same_lower (written lower a c) after (memory_of ys everything) (omega arith) (same ∙ sym kept) (written_trimmed lower a c trimmed) still (e ∙ sym (written_below lower (memory_of ys everything) a c few below.1)))
    (λ above.
    let from : length lower.cells ≤ a = omega (arith, above.1) in
    same_lower lower after (memory_of ys everything) few same trimmed still (e ∙ written_upper lower ys a from c) ∙ sym (written_outside lower a c from))
    (leb_tells (suc a) (length lower.cells))
