-- Where the bytes of an instruction hold its fields, and the bytes that hold given fields, one line for each format.
-- above: the bits of the first byte above the code; high, top: the second and the third byte. A format of two bytes has no top.
-- Assumes nothing.
use Rattle.std.specs.Prelude.{ℕ, ◌+◌, ◌*◌, ◌/◌, ◌%◌, ◌^◌, Bool, true, false, List, [], ◌∷◌, pos, Some, None, Option, ◌==◌, nat_lt}
use Rattle.opcodes.specs.declared.format.Format.{Format}
use Rattle.opcodes.specs.declared.format.Format.TheVariants.{RegRegReg, RegRegShift, RegRegImm, RegLongImm, Branch, Memory, RegReg, RegImm, RegShift, Reg, Jump, Stack, Bare}
use Rattle.fields.specs.Bits.{signed, bits}
use Rattle.opcodes.specs.Formats.{code_width}
use Rattle.records.specs.Instructions.{Fields, fields}

abbrev pub only : Bool → Fields → Option Fields
only true x = Some x
only false x = None

-- the fields that bytes hold; nothing where they break a zero
abbrev pub read : Format → ℕ → ℕ → ℕ → Option Fields
read RegRegReg above high top = only (nat_lt top 16) (fields (high % 16) (high / 16) top (pos 0))
read RegRegShift above high top = only (nat_lt top 16) (fields (high % 16) (high / 16) 0 (pos top))
read RegRegImm above high top = Some (fields (high % 16) (high / 16) 0 (signed 512 (above * 256 + top)))
read RegLongImm above high top = only (nat_lt high 16) (fields (high % 16) 0 0 (signed 512 (above * 256 + top)))
read Branch above high top = Some (fields (high / 16) (high % 16) 0 (signed 512 (above * 256 + top)))
read Memory above high top = Some (fields (high % 16) (high / 16) 0 (signed 512 (above * 256 + top)))
read RegReg above high top = Some (fields (high % 16) (high / 16) 0 (pos 0))
read RegImm above high top = Some (fields (high % 16) 0 0 (signed 32 (above * 16 + high / 16)))
read RegShift above high top = Some (fields (high % 16) 0 0 (pos (high / 16)))
read Reg above high top = only (nat_lt high 16) (fields (high % 16) 0 0 (pos 0))
read Jump above high top = Some (fields 0 0 0 (signed 1024 (high * 8 + above)))
read Stack above high top = Some (fields (high % 16) 0 0 (pos ((above * 16 + high / 16) * 2)))
read Bare above high top = only (high == 0) (fields 0 0 0 (pos 0))

-- the bits above the code, and the bytes after the first
pub record Layout : Type 0 where
  pub above : ℕ
  pub rest : List ℕ

abbrev laid : ℕ → List ℕ → Layout
laid above rest = record { above = above; rest = rest }

-- a byte of two halves
abbrev pub halves : ℕ → ℕ → ℕ
halves low high = high % 16 * 16 + low % 16

-- what holds given fields; u is the immediate's sixteen bits
abbrev layout_of : Format → ℕ → ℕ → ℕ → ℕ → Layout
layout_of RegRegReg a b c u = laid 0 (halves a b ∷ c ∷ [])
layout_of RegRegShift a b c u = laid 0 (halves a b ∷ u % 256 ∷ [])
layout_of RegRegImm a b c u = laid (u / 256 % 4) (halves a b ∷ u % 256 ∷ [])
layout_of RegLongImm a b c u = laid (u / 256 % 4) (halves a 0 ∷ u % 256 ∷ [])
layout_of Branch a b c u = laid (u / 256 % 4) (halves b a ∷ u % 256 ∷ [])
layout_of Memory a b c u = laid (u / 256 % 4) (halves a b ∷ u % 256 ∷ [])
layout_of RegReg a b c u = laid 0 (halves a b ∷ [])
layout_of RegImm a b c u = laid (u / 16 % 4) (halves a u ∷ [])
layout_of RegShift a b c u = laid 0 (halves a u ∷ [])
layout_of Reg a b c u = laid 0 (halves a 0 ∷ [])
layout_of Jump a b c u = laid (u % 8) (u / 8 % 256 ∷ [])
layout_of Stack a b c u = laid (u / 32 % 4) (halves a (u / 2) ∷ [])
layout_of Bare a b c u = laid 0 (0 ∷ [])

abbrev pub layout : Format → Fields → Layout
layout f x = layout_of f x.a x.b x.c (bits x.imm)

-- the bytes: the code in the low bits of the first, and the rest
abbrev pub bytes_of : Format → ℕ → Layout → List ℕ
bytes_of f code l = (l.above * 2 ^ code_width f + code) ∷ l.rest
