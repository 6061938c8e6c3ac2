-- An instruction: its kind, registers in the order of the assembler text, and an immediate.
-- Assumes nothing.
use Rattle.std.specs.Prelude.{◌≡◌, ℕ, ◌<◌, Bool, true, ◌&&◌, ℤ}
use Rattle.opcodes.specs.declared.format.Format.{Format}
use Rattle.opcodes.specs.declared.kind.Kind.{Kind}
use Rattle.records.specs.declared.operands.Operands.{Operands}
use Rattle.records.specs.Shapes.{shape, unused_zero, in_range, even_enough}
use Rattle.opcodes.specs.Kinds.{format}

pub record Fields : Type 0 where
  pub a : ℕ
  pub b : ℕ
  pub c : ℕ
  pub imm : ℤ

abbrev pub fields : ℕ → ℕ → ℕ → ℤ → Fields
fields a b c i = record { a = a; b = b; c = c; imm = i }

pub record Instruction : Type 0 where
  pub kind : Kind
  pub fields : Fields

abbrev pub instruction : Kind → Fields → Instruction
instruction k x = record { kind = k; fields = x }

-- what the operands of a record stand for
abbrev pub values : Operands → Fields
values x = fields x.a.number x.b.number x.c.number x.imm

-- what a format allows: unused fields are zero, the immediate is in range, and even where it has to be
unfoldable pub legal : Format → Fields → Bool
legal f x = unused_zero (shape f) x.a x.b x.c x.imm && (in_range (shape f) x.imm && even_enough (shape f) x.imm)

abbrev pub Lawful : Format → Fields → Type 0
Lawful f x = legal f x ≡ true

abbrev pub Legal : Kind → Operands → Type 0
Legal k x = Lawful (format k) (values x)

-- registers below 16, and what the format allows
pub record Fitting (f : Format) (x : Fields) : Type 0 where
  pub a : x.a < 16
  pub b : x.b < 16
  pub c : x.c < 16
  pub legal : Lawful f x

-- an instruction that a record can stand for
abbrev pub Sound : Instruction → Type 0
Sound x = Fitting (format x.kind) x.fields
