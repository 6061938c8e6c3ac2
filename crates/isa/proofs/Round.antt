-- Decoding undoes encoding, and encoding undoes decoding. Assumes nothing.
use Rattle.std.proofs.Common.{◌≡◌, ℕ, ◌+◌, ◌*◌, ◌/◌, ◌%◌, ◌^◌, ◌<◌, Bool, true, false, eqb, List, [], ◌∷◌, ◌++◌, get_or, Some, None, Ok, Err, Option, sym, refl, ap, ◌∙◌, subst, arith}
use Rattle.std.proofs.lemmas.Bool.{cond-true, cond-false}
use Rattle.opcodes.specs.declared.format.Format.{Format}
use Rattle.opcodes.specs.declared.kind.Kind.{Kind}
use Rattle.records.specs.declared.refusal.DecodeError.TheVariants.{CutShort}
use Rattle.records.specs.Codec.{two, three, cut, with_fields, of_kind, held, gives, answered, decoded_from, decoded, encoded}
use Rattle.opcodes.specs.Formats.{code_width}
use Rattle.records.specs.Instructions.{Fields, Instruction, instruction, Sound}
use Rattle.opcodes.specs.Kinds.{code, format}
use Rattle.isa.specs.Laws.{Bytes, DecodingUndoesEncoding, EncodingUndoesDecoding, DecodingExamples}
use Rattle.records.specs.Layouts.{read, layout, bytes_of}
use Rattle.opcodes.specs.Table.{named}
use Rattle.records.proofs.Legal.{read_fitting}
use Rattle.records.proofs.Splits.{following, apart}
use Rattle.opcodes.proofs.Named.{long, code_of, named_by, code_lt, length_told, first_byte_mod, first_byte_div, first_byte_lt, first_byte_whole}
use Rattle.isa.proofs.Redo.{redo}
use Rattle.isa.proofs.Undo.{undo}
use Rattle.opcodes.proofs.Widths.{above_lt}

-- bytes whose first tells their number are the first instruction, whatever follows
first_of : (b : Bool) (low h t : ℕ) (rest : List ℕ) (x : Instruction) → eqb (low % 2) 1 ≡ b → (b ≡ false → t ≡ 0) → held low h t ≡ Some x → decoded (low ∷ following b h t ++ rest) ≡ gives (Ok x) rest
unfolding decoded
first_of true low h t rest x e z d =
    let s : List ℕ = low ∷ h ∷ t ∷ rest in
    ap (decoded_from s) (cond-true (eqb (low % 2) 1) (Ok (cut (three low h t) rest)) (Ok (cut (two low h) (t ∷ rest))) e) ∙ ap (λ (o : Option Instruction). answered s o rest) d
first_of false low h t [] x e z d =
    let s : List ℕ = low ∷ h ∷ [] in
    ap (decoded_from s) (cond-false (eqb (low % 2) 1) (Err CutShort) (Ok (cut (two low h) [])) e) ∙ ap (λ (o : Option Instruction). answered s o []) (ap (held low h) (sym (z refl)) ∙ d)
first_of false low h t (n ∷ rest) x e z d =
    let s : List ℕ = low ∷ h ∷ n ∷ rest in
    ap (decoded_from s) (cond-false (eqb (low % 2) 1) (Ok (cut (three low h n) rest)) (Ok (cut (two low h) (n ∷ rest))) e) ∙ ap (λ (o : Option Instruction). answered s o (n ∷ rest)) (ap (held low h) (sym (z refl)) ∙ d)

-- what follows the first byte, by its parts
pub record Followed (f : Format) (x : Fields) : Type 0 where
  rest : (layout f x).rest ≡ following (long f) (get_or (layout f x).rest 0 0) (get_or (layout f x).rest 1 0)
  none : long f ≡ false → get_or (layout f x).rest 1 0 ≡ 0

followed : (f : Format) (x : Fields) → Followed f x
followed f x = record { rest = grind arith; none = grind arith }

pub undoes : DecodingUndoesEncoding
unfolding encoded
undoes x s rest =
    let k = x.kind in
    let f = format k in
    let l = layout f x.fields in
    let u = undo f x.fields s in
    let low : ℕ = l.above * 2 ^ code_width f + code k in
    let small = code_lt k in
    let is : low % 2 ^ code_width f ≡ code k = first_byte_mod f l.above (code k) small in
    let it : named low ≡ Some k = named_by low (first_byte_lt f l.above (code k) u.above small) k is in
    let above : low / 2 ^ code_width f ≡ l.above = first_byte_div f l.above (code k) small in
    let h : ℕ = get_or l.rest 0 0 in
    let t : ℕ = get_or l.rest 1 0 in
    let found : held low h t ≡ Some x =
    ap (λ (o : Option Kind). of_kind o low h t) it ∙ ap (with_fields k) (ap (λ (n : ℕ). read f n h t) above ∙ u.back) in
    ap (λ (r : List ℕ). decoded (low ∷ r ++ rest)) (followed f x.fields).rest
    ∙ first_of (long f) low h t rest x (length_told low k is) (followed f x.fields).none found

-- the other way: what bytes hold has a kind, and fields that its format reads
held_parts : (low h t : ℕ) (x : Instruction) (P : Instruction → Type 0) → held low h t ≡ Some x → ((k : Kind) (y : Fields) → named low ≡ Some k → read (format k) (low / 2 ^ code_width (format k)) h t ≡ Some y → P (instruction k y)) → P x
held_parts low h t x P e go =
    elim (named low) as (λ o. named low ≡ o → of_kind o low h t ≡ Some x → P x) [
      | None ↦ λ n d. absurd cc
      | Some k ↦ λ n d.
          elim (read (format k) (low / 2 ^ code_width (format k)) h t) as (λ r. read (format k) (low / 2 ^ code_width (format k)) h t ≡ r → with_fields k r ≡ Some x → P x) [
            | None ↦ λ r c. absurd cc
            | Some y ↦ λ r c. let q : instruction k y ≡ x = cc in subst P q (go k y n r)
          ] refl d
    ] refl e

-- an instruction that bytes hold is sound, and is encoded as those bytes
abbrev Again : ℕ → ℕ → ℕ → Instruction → Type 0
Again low h t x = Sound x × (encoded x ≡ low ∷ following (eqb (low % 2) 1) h t)

again : (low h t : ℕ) (x : Instruction) → low < 256 → h < 256 → t < 256 → held low h t ≡ Some x → Again low h t x
unfolding encoded
again low h t x p q r e =
    held_parts low h t x (Again low h t) e
    (λ k y n d.
    let f = format k in
    let u : ℕ = low / 2 ^ code_width f in
    let lt = above_lt f low p in
    let is = code_of low k n in
    let g = read_fitting f u h t y lt q r d in (
      record { a = g.a; b = g.b; c = g.c; legal = g.legal },
      ap (bytes_of f (code k)) (redo f u h t y lt q r d)
          ∙ ap (λ (b : ℕ). b ∷ following (long f) h t) (ap (λ (o : ℕ). u * 2 ^ code_width f + o) (sym is) ∙ first_byte_whole f low)
          ∙ ap (λ (b : Bool). low ∷ following b h t) (sym (length_told low k is)),
    ))

all_bytes : (b : Bool) (low h t : ℕ) (rest : List ℕ) → (b ≡ false → t ≡ 0) → Bytes (low ∷ following b h t ++ rest) → (low < 256) × (h < 256) × (t < 256)
all_bytes true low h t rest z b = (b.0, b.1.0, b.1.1.0)
all_bytes false low h t rest z b = (b.0, b.1.0, omega (arith, z refl))

pub redoes : EncodingUndoesDecoding
redoes s b x rest e =
    let a = apart s x rest e in
    let p = all_bytes a.long a.low a.high a.top rest a.none (subst Bytes (sym a.whole) b) in
    let g = again a.low a.high a.top x p.0 p.1 p.2 a.holds in
    (g.0, ap (λ (l : List ℕ). l ++ rest) (g.1 ∙ ap (λ (c : Bool). a.low ∷ following c a.high a.top) a.told) ∙ a.whole)

pub examples : DecodingExamples
unfolding named decoded
examples = (refl, refl, refl, refl, refl, refl, refl, refl, refl, refl, refl)
