-- The formats: which fields a record of each has, and what they may hold.
-- Assumes nothing.
use Rattle.std.specs.Prelude.{ℕ, ◌%◌, Bool, true, false, not, ◌&&◌, ◌||◌, ℤ, pos, negsuc, ◌==◌, Some, None, Option, int_le, nat_lt, unsigned_abs}
use Rattle.std.specs.Option.{is_some}
use Rattle.opcodes.specs.declared.format.Format.{Format}
use Rattle.opcodes.specs.declared.format.Format.TheVariants.{RegRegReg, RegRegShift, RegRegImm, RegLongImm, Branch, Memory, RegReg, RegImm, RegShift, Reg, Jump, Stack, Bare}
use Rattle.records.specs.declared.shape.Bounds.{Bounds}
use Rattle.records.specs.declared.shape.Shape.{Shape}

abbrev pub bounds : ℤ → ℤ → Bool → Bounds
bounds l h e = record { lowest = l; highest = h; even = e }

abbrev pub entry : ℕ → Option Bounds → Shape
entry n i = record { registers = n; immediate = i }

-- how many of the registers a, b, c a format has, and of its immediate, if it has one, the least and the greatest and whether it has to be even
abbrev pub shape : Format → Shape
shape RegRegReg = entry 3 None
shape RegRegShift = entry 2 (Some (bounds (pos 0) (pos 15) false))
shape RegRegImm = entry 2 (Some (bounds (negsuc 511) (pos 511) false))
shape RegLongImm = entry 1 (Some (bounds (negsuc 511) (pos 511) false))
shape Branch = entry 2 (Some (bounds (negsuc 511) (pos 511) false))
shape Memory = entry 2 (Some (bounds (negsuc 511) (pos 511) false))
shape RegReg = entry 2 None
shape RegImm = entry 1 (Some (bounds (negsuc 31) (pos 31) false))
shape RegShift = entry 1 (Some (bounds (pos 0) (pos 15) false))
shape Reg = entry 1 None
shape Jump = entry 0 (Some (bounds (negsuc 1023) (pos 1023) false))
shape Stack = entry 1 (Some (bounds (pos 0) (pos 126) true))
shape Bare = entry 0 None

-- each register that the format does not use is zero
abbrev pub unused_registers_zero : Shape → ℕ → ℕ → ℕ → Bool
unused_registers_zero s a b c = (nat_lt 0 s.registers || a == 0) && ((nat_lt 1 s.registers || b == 0) && (nat_lt 2 s.registers || c == 0))

-- each field that the format does not use is zero
abbrev pub unused_zero : Shape → ℕ → ℕ → ℕ → ℤ → Bool
unused_zero s a b c i = unused_registers_zero s a b c && (is_some s.immediate || unsigned_abs i == 0)

-- from the least to the greatest; without an immediate, 0 alone
abbrev pub within : Option Bounds → ℤ → Bool
within (Some b) i = int_le b.lowest i && int_le i b.highest
within None i = unsigned_abs i == 0

abbrev pub in_range : Shape → ℤ → Bool
in_range s i = within s.immediate i

abbrev pub even_within : Option Bounds → ℤ → Bool
even_within (Some b) i = not b.even || unsigned_abs i % 2 == 0
even_within None i = true

abbrev pub even_enough : Shape → ℤ → Bool
even_enough s i = even_within s.immediate i
