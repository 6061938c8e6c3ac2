-- Decoding and encoding undo each other, and worked examples of decoding.
-- Assumes nothing.
use Rattle.std.specs.Prelude.{◌≡◌, ℕ, ◌<◌, List, [], ◌∷◌, ◌++◌, pos, negsuc, Ok, Err}
use Rattle.opcodes.specs.declared.kind.Kind.TheVariants.{Nop, Lsi, Addi2, Bne, Add, Lwsp}
use Rattle.records.specs.declared.refusal.DecodeError.{DecodeError}
use Rattle.records.specs.declared.refusal.DecodeError.TheVariants.{Empty, CutShort, Undefined}
use Rattle.records.specs.Codec.{decoded, encoded, gives}
use Rattle.records.specs.Instructions.{Instruction, instruction, fields, Sound}

abbrev pub Bytes : List ℕ → Type 0
Bytes [] = Unit {0}
Bytes (b ∷ s) = (b < 256) × Bytes s

-- every instruction comes back from its bytes, whatever follows them
abbrev pub DecodingUndoesEncoding : Type 0
DecodingUndoesEncoding = (x : Instruction) → Sound x → (rest : List ℕ) → decoded (encoded x ++ rest) ≡ gives (Ok x) rest

-- bytes that decode are the bytes of the instruction that they hold, and what follows
abbrev pub EncodingUndoesDecoding : Type 0
EncodingUndoesDecoding = (s : List ℕ) → Bytes s → (x : Instruction) (rest : List ℕ) → decoded s ≡ gives (Ok x) rest → Sound x × (encoded x ++ rest ≡ s)

-- the bytes hold one instruction and no more
abbrev pub Holds : List ℕ → Instruction → Type 0
Holds s x = decoded s ≡ gives (Ok x) []

abbrev pub Refused : List ℕ → DecodeError → Type 0
Refused s e = decoded s ≡ gives (Err e) s

abbrev pub DecodingExamples : Type 0
DecodingExamples =
    Holds (0x00 ∷ 0x00 ∷ []) (instruction Nop (fields 0 0 0 (pos 0))) ×
    Holds (0x34 ∷ 0x38 ∷ []) (instruction Lsi (fields 8 0 0 (pos 3))) ×
    Holds (0xC2 ∷ 0xF8 ∷ []) (instruction Addi2 (fields 8 0 0 (negsuc 0))) ×
    Holds (0xEF ∷ 0x89 ∷ 0xFE ∷ []) (instruction Bne (fields 8 9 0 (negsuc 1))) ×
    Holds (0x01 ∷ 0x21 ∷ 0x03 ∷ []) (instruction Add (fields 1 2 3 (pos 0))) ×
    Holds (0xD4 ∷ 0xF8 ∷ []) (instruction Lwsp (fields 8 0 0 (pos 126))) ×
    Refused (0x01 ∷ 0x21 ∷ 0x13 ∷ []) Undefined ×
    Refused (0x07 ∷ 0x00 ∷ 0x00 ∷ []) Undefined ×
    Refused (0x40 ∷ 0x00 ∷ []) Undefined ×
    Refused (0x01 ∷ 0x21 ∷ []) CutShort ×
    Refused [] Empty
