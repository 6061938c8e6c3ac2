-- The calls that encode and decode, by what each of the two ensures. Assumes nothing.
use Rattle.std.proofs.Common.{◌≡◌, ℕ, suc, ◌-◌, ◌<◌, Bool, true, false, cond, leb, List, [], ◌∷◌, ◌++◌, length, get_or, take, drop, Ok, Err, Result, sym, refl, rules, ap, ◌∙◌, arith, length-append}
use lib.Seq.{take-append_seam}
use Rattle.std.proofs.lemmas.Bool.{cond-true}
use Rattle.std.specs.Result.{MatchResult, IsOk}
use Rattle.records.specs.declared.record.Record.{Record}
use Rattle.records.specs.declared.refusal.DecodeError.{DecodeError}
use Rattle.records.specs.declared.refusal.EncodeError.TheVariants.{NoRoom}
use Rattle.records.specs.Codec.{Decoded, gives, decoded, encoded, laid_answer, laid_over}
use Rattle.records.specs.Instructions.{Instruction, Sound}
use Rattle.isa.specs.Laws.{Bytes}
use Rattle.records.specs.Records.{meaning}
use Rattle.isa.specs.RoundTrips.{through, first_bytes, as_codec, copied_answer, copied_over}
use Rattle.isa.proofs.Round.{undoes, redoes}

pub sound : (r : Record) → Sound (meaning r)
sound r = record { a = r.operands.a.small; b = r.operands.b.small; c = r.operands.c.small; legal = r.legal }

-- an encoding that was laid had room
room : (b : Bool) (n m : ℕ) → cond b (Ok n) (Err NoRoom) ≡ Ok m → b ≡ true
room true n m e = refl
room false n m e = absurd cc

module _ (x : Instruction) (before : List ℕ) where
  pub through_laid : (n : ℕ) → laid_answer (encoded x) before ≡ Ok n → Ok x ≡ through x before
  through_laid n e = sym (cond-true (leb (length (encoded x)) (length before)) (Ok x) (Err NoRoom) (room _ (length (encoded x)) n e))

  -- what stands in the buffer decodes to the instruction
  pub comes_back : Sound x → (n : ℕ) (after : List ℕ) → laid_answer (encoded x) before ≡ Ok n → after ≡ laid_over (encoded x) before → decoded after ≡ gives (Ok x) (drop (length (encoded x)) before)
  comes_back s n after e l =
      let bs = encoded x in
      let fits = room (leb (length bs) (length before)) (length bs) n e in
      let stands : after ≡ bs ++ drop (length bs) before = l ∙ cond-true (leb (length bs) (length before)) (bs ++ drop (length bs) before) before fits in
      ap decoded stands ∙ undoes x s (drop (length bs) before)

-- a decoding of bytes that hold an instruction is not refused
pub not_refused : {X : Type 0} (holds : X → Type 0) (s : List ℕ) (x : Instruction) (rest : List ℕ) → decoded s ≡ gives (Ok x) rest → (r : Result X DecodeError) → MatchResult r holds (λ e. decoded s ≡ gives (Err e) s) → IsOk r
not_refused holds s x rest d (Ok p) h = search rules
not_refused holds s x rest d (Err e) h =
    let never : Err e ≡ Ok x = ap (λ (v : Decoded). v.answer) (sym h ∙ d) in
    absurd cc

-- what proves that a record comes back
pub ruleset there_and_back = (undoes, sound, comes_back, not_refused, through_laid)

-- the elements of a byte slice are bytes
pub bytes_from : (s : List ℕ) → ((i : ℕ) → get_or s i 0 < 256) → Bytes s
bytes_from [] h = tt
bytes_from (b ∷ s) h = (h 0, bytes_from s (λ i. h (suc i)))

module _ (s : List ℕ) (x : Instruction) (rest : List ℕ) (bytes : Bytes s) (e : decoded s ≡ gives (Ok x) rest) where
  own_bytes : encoded x ≡ first_bytes s
  own_bytes =
      let w : encoded x ++ rest ≡ s = (redoes s bytes x rest e).1 in
      let r : (decoded s).rest ≡ rest = ap (λ (d : Decoded). d.rest) e in
      let n : length s - length (decoded s).rest ≡ length (encoded x) = ap (λ (l : List ℕ). length s - length l) r ∙ omega (arith, ap length w, length-append (encoded x) rest) in
      sym (ap (λ (m : ℕ). take m s) n ∙ ap (take (length (encoded x))) (sym w) ∙ take-append_seam (encoded x) rest)

  pub copied_laid : (before : List ℕ) → as_codec (laid_answer (encoded x) before) ≡ copied_answer (decoded s).answer s before
  copied_laid before =
      ap (λ (l : List ℕ). as_codec (laid_answer l before)) own_bytes
      ∙ sym (ap (λ (d : Decoded). copied_answer d.answer s before) e)

  pub copied_bytes : (before : List ℕ) → laid_over (encoded x) before ≡ copied_over (decoded s).answer s before
  copied_bytes before =
      ap (λ (l : List ℕ). laid_over l before) own_bytes
      ∙ sym (ap (λ (d : Decoded). copied_over d.answer s before) e)
