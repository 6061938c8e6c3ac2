-- The numbers of the refusals, and what a refusal to decode says.
-- Assumes nothing.
use Rattle.std.specs.Prelude.{ℕ, List, codes}
use Rattle.records.specs.declared.refusal.RecordError.{RecordError}
use Rattle.records.specs.declared.refusal.RecordError.TheVariants.{UnknownKind, NoSuchRegister, UnusedField, OutOfRange, OddOffset}
use Rattle.records.specs.declared.refusal.DecodeError.{DecodeError}
use Rattle.records.specs.declared.refusal.DecodeError.TheVariants.{Empty, CutShort, Undefined}
use Rattle.records.specs.declared.refusal.EncodeError.{EncodeError}
use Rattle.records.specs.declared.refusal.EncodeError.TheVariants.{NoRoom}

abbrev pub record_number : RecordError → ℕ
record_number UnknownKind = 24
record_number NoSuchRegister = 51
record_number UnusedField = 55
record_number OutOfRange = 53
record_number OddOffset = 54

abbrev pub decode_number : DecodeError → ℕ
decode_number Empty = 21
decode_number CutShort = 22
decode_number Undefined = 23

abbrev pub decode_message : DecodeError → List ℕ
decode_message Empty = codes "no instruction"
decode_message CutShort = codes "instruction cut short"
decode_message Undefined = codes "undefined instruction"

abbrev pub encode_number : EncodeError → ℕ
encode_number NoRoom = 61
