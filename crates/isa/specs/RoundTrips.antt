-- What encoding and then decoding answers, and decoding and then encoding.
-- Assumes nothing.
use Rattle.std.specs.Prelude.{ℕ, ◌-◌, cond, List, length, take, Ok, Err, Result, nat_le}
use Rattle.records.specs.declared.refusal.DecodeError.{DecodeError}
use Rattle.records.specs.declared.refusal.EncodeError.{EncodeError}
use Rattle.records.specs.declared.refusal.EncodeError.TheVariants.{NoRoom}
use Rattle.isa.specs.declared.refusal.CodecError.{CodecError}
use Rattle.isa.specs.declared.refusal.CodecError.TheVariants.{Decode, Encode}
use Rattle.records.specs.Codec.{decoded, encoded, laid_answer, laid_over}
use Rattle.records.specs.Instructions.{Instruction}

-- an instruction that goes through a buffer comes back as it was
abbrev pub through : Instruction → List ℕ → Result Instruction EncodeError
through x buffer = cond (nat_le (length (encoded x)) (length buffer)) (Ok x) (Err NoRoom)

-- the bytes of the first instruction
abbrev pub first_bytes : List ℕ → List ℕ
first_bytes s = take (length s - length (decoded s).rest) s

abbrev pub as_codec : Result ℕ EncodeError → Result ℕ CodecError
as_codec (Ok n) = Ok n
as_codec (Err e) = Err (Encode e)

-- what an instruction is decoded from is laid again, byte for byte
abbrev pub copied_answer : Result Instruction DecodeError → List ℕ → List ℕ → Result ℕ CodecError
copied_answer (Ok x) s buffer = as_codec (laid_answer (first_bytes s) buffer)
copied_answer (Err e) s buffer = Err (Decode e)

abbrev pub copied_over : Result Instruction DecodeError → List ℕ → List ℕ → List ℕ
copied_over (Ok x) s buffer = laid_over (first_bytes s) buffer
copied_over (Err e) s buffer = buffer
