-- What the answer to a block tells of its addresses, and what a block leaves.
-- Assumes nothing.
use Rattle.std.specs.Prelude.{◌≡◌, ℕ, ◌+◌, ◌<◌, ◌≤◌, Bool, true, false, ◌⊎◌, List, length, Ok, Err, Result, slice_index}
use Rattle.memory.specs.declared.fault.StoreFault.{StoreFault}
use Rattle.memory.specs.declared.fault.StoreFault.TheVariants.{Outside, Protected}
use Rattle.memory.specs.Memory.{Memory, cell, inside, looked}
use Rattle.memory.specs.Blocks.{free}

-- all addresses from the first up to the end, which is not one of them, pass a test
abbrev pub AllPass : (ℕ → Bool) → ℕ → ℕ → Type 0
AllPass passes from end = (a : ℕ) → from ≤ a → a < end → passes a ≡ true

-- the lowest of these that fails a test
pub record LowestFailing (passes : ℕ → Bool) (from end a : ℕ) : Type 0 where
  pub not_before : from ≤ a
  pub before_end : a < end
  pub fails : passes a ≡ false
  pub lower : AllPass passes from a

-- accepted where every address of the block is inside and unprotected; refused with 41 at the lowest that is outside, and where none
-- is, with 42 at the lowest that is protected
abbrev pub RefusedAtLowest : Memory → ℕ → ℕ → Result (Unit {0}) StoreFault → Type 0
RefusedAtLowest m from end (Ok u) = AllPass (inside m.cells) from end × AllPass (free m) from end
RefusedAtLowest m from end (Err (Outside a)) = LowestFailing (inside m.cells) from end a
RefusedAtLowest m from end (Err (Protected a)) = AllPass (inside m.cells) from end × LowestFailing (free m) from end a

-- the cells after a block that was accepted: its bytes under its label where it lies, elsewhere those before it
pub record InARow (before after : Memory) (a : ℕ) (bs : List ℕ) (label : ℕ) : Type 0 where
  pub here : (i : ℕ) → i < length bs → looked after.cells (a + i) ≡ Ok (cell (slice_index bs i) label)
  pub elsewhere : (b : ℕ) → (b < a) ⊎ (a + length bs ≤ b) → looked after.cells b ≡ looked before.cells b
  pub protection : after.protected ≡ before.protected

-- all or nothing
abbrev pub AllOrNothing : Result (Unit {0}) StoreFault → Memory → Memory → ℕ → List ℕ → ℕ → Type 0
AllOrNothing (Ok u) before after a bs label = InARow before after a bs label
AllOrNothing (Err f) before after a bs label = after ≡ before
