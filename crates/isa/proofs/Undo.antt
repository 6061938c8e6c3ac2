-- Each format's bytes hold its fields: reading undoes writing. Assumes nothing.
use Rattle.std.proofs.Common.{◌≡◌, ◌-◌, ◌%◌, ◌^◌, ◌<◌, true, ◌&&◌, get_or, ℤ, pos, negsuc, Some, arith}
use Rattle.std.proofs.lemmas.Bool.{and_parts}
use Rattle.std.proofs.lemmas.Bool.Decides.{nat_tests}
use Rattle.opcodes.specs.declared.format.Format.{Format}
use Rattle.opcodes.specs.declared.format.Format.TheVariants.{RegRegReg, RegRegShift, RegRegImm, RegLongImm, Branch, Memory, RegReg, RegImm, RegShift, Reg, Jump, Stack, Bare}
use Rattle.fields.specs.Bits.{signed, bits}
use Rattle.opcodes.specs.Formats.{code_width}
use Rattle.records.specs.Shapes.{shape, unused_zero, in_range, even_enough}
use Rattle.records.specs.Instructions.{Fields, legal, Fitting}
use Rattle.records.specs.Layouts.{read, layout}

-- a number in range is what its low bits stand for
ten : (i : ℤ) → in_range (shape RegRegImm) i ≡ true → signed 512 (bits i % 1024) ≡ i
ten (pos n) h = grind (arith, nat_tests)
ten (negsuc n) h = grind (arith, nat_tests)

six : (i : ℤ) → in_range (shape RegImm) i ≡ true → signed 32 (bits i % 64) ≡ i
six (pos n) h = grind (arith, nat_tests)
six (negsuc n) h = grind (arith, nat_tests)

eleven : (i : ℤ) → in_range (shape Jump) i ≡ true → signed 1024 (bits i % 2048) ≡ i
eleven (pos n) h = grind (arith, nat_tests)
eleven (negsuc n) h = grind (arith, nat_tests)

-- what a format asks, apart
record Facts (f : Format) (x : Fields) : Type 0 where
  a : x.a < 16
  b : x.b < 16
  c : x.c < 16
  zeros : unused_zero (shape f) x.a x.b x.c x.imm ≡ true
  range : in_range (shape f) x.imm ≡ true
  evens : even_enough (shape f) x.imm ≡ true

facts : (f : Format) (x : Fields) → Fitting f x → Facts f x
unfolding legal
facts f x g =
    let p = and_parts (unused_zero (shape f) x.a x.b x.c x.imm) (in_range (shape f) x.imm && even_enough (shape f) x.imm) g.legal in
    let q = and_parts (in_range (shape f) x.imm) (even_enough (shape f) x.imm) p.1 in
    record { a = g.a; b = g.b; c = g.c; zeros = p.0; range = q.0; evens = q.1 }

pub record Undone (f : Format) (x : Fields) : Type 0 where
  pub above : (layout f x).above < 2 ^ (8 - code_width f)
  pub back : read f (layout f x).above (get_or (layout f x).rest 0 0) (get_or (layout f x).rest 1 0) ≡ Some x

-- reading what was written
back : (f : Format) (x : Fields) → Facts f x → read f (layout f x).above (get_or (layout f x).rest 0 0) (get_or (layout f x).rest 1 0) ≡ Some x
back RegRegReg x g = grind (arith, nat_tests, g.a, g.b, g.c, g.zeros, g.evens, g.range)
back RegRegShift x g = grind (arith, nat_tests, g.a, g.b, g.c, g.zeros, g.evens, g.range)
back RegRegImm x g = grind (arith, nat_tests, g.a, g.b, g.c, g.zeros, g.evens, ten x.imm g.range)
back RegLongImm x g = grind (arith, nat_tests, g.a, g.b, g.c, g.zeros, g.evens, ten x.imm g.range)
back Branch x g = grind (arith, nat_tests, g.a, g.b, g.c, g.zeros, g.evens, ten x.imm g.range)
back Memory x g = grind (arith, nat_tests, g.a, g.b, g.c, g.zeros, g.evens, ten x.imm g.range)
back RegReg x g = grind (arith, nat_tests, g.a, g.b, g.c, g.zeros, g.evens, g.range)
back RegImm x g = grind (arith, nat_tests, g.a, g.b, g.c, g.zeros, g.evens, six x.imm g.range)
back RegShift x g = grind (arith, nat_tests, g.a, g.b, g.c, g.zeros, g.evens, g.range)
back Reg x g = grind (arith, nat_tests, g.a, g.b, g.c, g.zeros, g.evens, g.range)
back Jump x g = grind (arith, nat_tests, g.a, g.b, g.c, g.zeros, g.evens, eleven x.imm g.range)
back Stack x g = grind (arith, nat_tests, g.a, g.b, g.c, g.zeros, g.evens, g.range)
back Bare x g = grind (arith, nat_tests, g.a, g.b, g.c, g.zeros, g.evens, g.range)

pub undo : (f : Format) (x : Fields) → Fitting f x → Undone f x
undo f x g = record { above = grind (arith, nat_tests); back = back f x (facts f x g) }
