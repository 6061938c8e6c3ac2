-- The fields that bytes hold are legal, and so are those that a format takes. Assumes nothing.
use Rattle.std.proofs.Common.{◌≡◌, ℕ, ◌-◌, ◌^◌, ◌<◌, Bool, true, cond, ◌&&◌, ℤ, Some, Ok, Err, subst, arith}
use Rattle.std.proofs.lemmas.Bool.Decides.{nat_tests}
use Rattle.records.specs.declared.refusal.RecordError.{RecordError}
use Rattle.records.specs.declared.refusal.RecordError.TheVariants.{NoSuchRegister, UnusedField, OutOfRange, OddOffset}
use Rattle.opcodes.specs.declared.format.Format.{Format}
use Rattle.opcodes.specs.Formats.{code_width}
use Rattle.records.specs.Shapes.{shape, unused_zero, in_range, even_enough}
use Rattle.records.specs.Instructions.{Fields, fields, legal, Lawful, Fitting}
use Rattle.records.specs.Layouts.{read}
use Rattle.records.specs.Records.{registers, taken}

-- the fields that bytes hold
pub read_fitting : (f : Format) (u h t : ℕ) (x : Fields) → u < 2 ^ (8 - code_width f) → h < 256 → t < 256 → read f u h t ≡ Some x → Fitting f x
unfolding legal
read_fitting f u h t x p q r e = record { a = grind (arith, nat_tests); b = grind (arith, nat_tests); c = grind (arith, nat_tests); legal = grind (arith, nat_tests) }

-- four tests in a row that end in an answer were all passed
all_passed : (p q r s : Bool) (d e f g : RecordError) (y x : Fields) → cond p (cond q (cond r (cond s (Ok y) (Err d)) (Err e)) (Err f)) (Err g) ≡ Ok x → (y ≡ x) × ((q && (r && s)) ≡ true)
all_passed p q r s d e f g y x h = (grind arith, grind arith)

pub taken_legal : (f : Format) (a b c : ℕ) (i : ℤ) (x : Fields) → taken f a b c i ≡ Ok x → Lawful f x
unfolding legal
taken_legal f a b c i x e =
    let p = all_passed (registers a b c) (unused_zero (shape f) a b c i) (in_range (shape f) i) (even_enough (shape f) i) OddOffset OutOfRange UnusedField NoSuchRegister (fields a b c i) x e in
    subst (Lawful f) p.0 p.1
