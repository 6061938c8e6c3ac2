-- A record stands for an instruction; what making one answers.
-- Assumes nothing.
use Rattle.std.specs.Prelude.{ℕ, Bool, cond, ◌&&◌, ℤ, Some, None, Ok, Err, Option, Result, nat_le}
use Rattle.opcodes.specs.declared.format.Format.{Format}
use Rattle.opcodes.specs.declared.kind.Kind.{Kind}
use Rattle.records.specs.declared.operands.Operands.{Operands}
use Rattle.records.specs.declared.record.Record.{Record}
use Rattle.records.specs.declared.refusal.RecordError.{RecordError}
use Rattle.records.specs.declared.refusal.RecordError.TheVariants.{UnknownKind, NoSuchRegister, UnusedField, OutOfRange, OddOffset}
use Rattle.records.specs.Shapes.{shape, unused_zero, in_range, even_enough}
use Rattle.records.specs.Instructions.{Fields, fields, Instruction, instruction, values}
use Rattle.opcodes.specs.Kinds.{format, kind_numbered}

abbrev pub meaning : Record → Instruction
meaning r = instruction r.kind (values r.operands)

-- an answer, by what it stands for
abbrev pub outcome : {E : Type 0} → Result Record E → Result Instruction E
outcome (Ok r) = Ok (meaning r)
outcome (Err e) = Err e

abbrev pub outcome_values : Result Operands RecordError → Result Fields RecordError
outcome_values (Ok x) = Ok (values x)
outcome_values (Err e) = Err e

abbrev pub registers : ℕ → ℕ → ℕ → Bool
registers a b c = nat_le a 15 && (nat_le b 15 && nat_le c 15)

-- the fields that a format takes: the first no is the answer
abbrev pub taken : Format → ℕ → ℕ → ℕ → ℤ → Result Fields RecordError
taken f a b c i =
    cond (registers a b c)
    (cond (unused_zero (shape f) a b c i)
    (cond (in_range (shape f) i) (cond (even_enough (shape f) i) (Ok (fields a b c i)) (Err OddOffset)) (Err OutOfRange))
    (Err UnusedField))
    (Err NoSuchRegister)

abbrev pub with_kind : Kind → Result Fields RecordError → Result Instruction RecordError
with_kind k (Ok x) = Ok (instruction k x)
with_kind k (Err e) = Err e

abbrev pub made_of : Option Kind → ℕ → ℕ → ℕ → ℤ → Result Instruction RecordError
made_of None a b c i = Err UnknownKind
made_of (Some k) a b c i = with_kind k (taken (format k) a b c i)

-- the kind is asked first, and then what its format takes
abbrev pub made : ℕ → ℕ → ℕ → ℕ → ℤ → Result Instruction RecordError
made n a b c i = made_of (kind_numbered n) a b c i
