-- Writing undoes reading: the fields that bytes hold are laid out as those bytes again. Assumes nothing.
use Rattle.std.proofs.Common.{◌≡◌, ℕ, ◌-◌, ◌%◌, ◌^◌, ◌<◌, Bool, Some, arith}
use Rattle.std.proofs.lemmas.Bool.Decides.{nat_tests}
use Rattle.opcodes.specs.declared.format.Format.{Format}
use Rattle.fields.specs.Bits.{signed, bits}
use Rattle.opcodes.specs.Formats.{code_width}
use Rattle.records.specs.Instructions.{Fields}
use Rattle.records.specs.Layouts.{read, Layout, layout}
use Rattle.records.proofs.Splits.{following}
use Rattle.opcodes.proofs.Named.{long}

-- raw bits stand for a number whose low bits they are
ten : (n : ℕ) → n < 1024 → bits (signed 512 n) % 1024 ≡ n
ten n h = grind (arith, nat_tests)

six : (n : ℕ) → n < 64 → bits (signed 32 n) % 64 ≡ n
six n h = grind (arith, nat_tests)

eleven : (n : ℕ) → n < 2048 → bits (signed 1024 n) % 2048 ≡ n
eleven n h = grind (arith, nat_tests)

abbrev pub laid_as : Bool → ℕ → ℕ → ℕ → Layout
laid_as b u h t = record { above = u; rest = following b h t }

abbrev Redone : Format → ℕ → ℕ → ℕ → Fields → Type 0
Redone f u h t x = layout f x ≡ laid_as (long f) u h t

pub redo : (f : Format) (u h t : ℕ) (x : Fields) → u < 2 ^ (8 - code_width f) → h < 256 → t < 256 → read f u h t ≡ Some x → Redone f u h t x
redo f u h t x p q r e = grind (arith, nat_tests, ten, six, eleven)
