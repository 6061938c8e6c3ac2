-- What decoding a byte string answers, and the bytes of an instruction.
-- Assumes nothing.
use Rattle.std.specs.Prelude.{ℕ, ◌/◌, ◌%◌, ◌^◌, cond, List, [], ◌∷◌, ◌++◌, length, drop, Some, None, Ok, Err, Option, Result, ◌==◌, nat_le}
use Rattle.opcodes.specs.declared.kind.Kind.{Kind}
use Rattle.records.specs.declared.refusal.DecodeError.{DecodeError}
use Rattle.records.specs.declared.refusal.DecodeError.TheVariants.{Empty, CutShort, Undefined}
use Rattle.records.specs.declared.refusal.EncodeError.{EncodeError}
use Rattle.records.specs.declared.refusal.EncodeError.TheVariants.{NoRoom}
use Rattle.opcodes.specs.Formats.{code_width}
use Rattle.records.specs.Instructions.{Fields, Instruction, instruction}
use Rattle.opcodes.specs.Kinds.{code, format}
use Rattle.records.specs.Layouts.{read, layout, bytes_of}
use Rattle.opcodes.specs.Table.{named}

-- the bytes of one instruction
pub data Encoding : Type 0 where
  two : ℕ → ℕ → Encoding
  three : ℕ → ℕ → ℕ → Encoding

-- the bytes of the first instruction, and those after it
pub record Cut : Type 0 where
  pub first : Encoding
  pub rest : List ℕ

abbrev pub cut : Encoding → List ℕ → Cut
cut b rest = record { first = b; rest = rest }

-- an odd first byte begins three bytes, an even one two
abbrev pub split : List ℕ → Result Cut DecodeError
split [] = Err Empty
split (low ∷ []) = Err CutShort
split (low ∷ high ∷ []) = cond (low % 2 == 1) (Err CutShort) (Ok (cut (two low high) []))
split (low ∷ high ∷ top ∷ rest) = cond (low % 2 == 1) (Ok (cut (three low high top) rest)) (Ok (cut (two low high) (top ∷ rest)))

abbrev pub with_fields : Kind → Option Fields → Option Instruction
with_fields k None = None
with_fields k (Some x) = Some (instruction k x)

abbrev pub of_kind : Option Kind → ℕ → ℕ → ℕ → Option Instruction
of_kind None low high top = None
of_kind (Some k) low high top = with_fields k (read (format k) (low / 2 ^ code_width (format k)) high top)

-- the instruction that bytes hold, if they are defined
abbrev pub held : ℕ → ℕ → ℕ → Option Instruction
held low high top = of_kind (named low) low high top

abbrev pub held_in : Encoding → Option Instruction
held_in (two low high) = held low high 0
held_in (three low high top) = held low high top

-- an answer, and the bytes that are left
pub record Decoded : Type 0 where
  pub answer : Result Instruction DecodeError
  pub rest : List ℕ

abbrev pub gives : Result Instruction DecodeError → List ℕ → Decoded
gives r rest = record { answer = r; rest = rest }

abbrev pub answered : List ℕ → Option Instruction → List ℕ → Decoded
answered s None rest = gives (Err Undefined) s
answered s (Some x) rest = gives (Ok x) rest

abbrev pub decoded_from : List ℕ → Result Cut DecodeError → Decoded
decoded_from s (Err e) = gives (Err e) s
decoded_from s (Ok c) = answered s (held_in c.first) c.rest

-- a refusal leaves the whole string
unfoldable pub decoded : List ℕ → Decoded
decoded s = decoded_from s (split s)

unfoldable pub encoded : Instruction → List ℕ
encoded x = bytes_of (format x.kind) (code x.kind) (layout (format x.kind) x.fields)

-- bytes laid at the start of a buffer: the answer, and the buffer after; without room nothing is written
abbrev pub laid_answer : List ℕ → List ℕ → Result ℕ EncodeError
laid_answer bs buffer = cond (nat_le (length bs) (length buffer)) (Ok (length bs)) (Err NoRoom)

abbrev pub laid_over : List ℕ → List ℕ → List ℕ
laid_over bs buffer = cond (nat_le (length bs) (length buffer)) (bs ++ drop (length bs) buffer) buffer
