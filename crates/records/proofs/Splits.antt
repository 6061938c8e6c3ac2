-- The first bytes of a slice, as slice patterns bind them, and what decoding makes of them. Assumes nothing.
use Rattle.std.proofs.Common.{◌≡◌, ℕ, suc, ◌+◌, ◌-◌, ◌%◌, ◌<◌, ◌≤◌, Bool, true, false, cond, eqb, List, [], ◌∷◌, ◌++◌, length, get_or, take, drop, Some, Ok, Err, Option, sym, refl, ap, ◌∙◌, arith, length-append}
use Rattle.std.proofs.lemmas.List.{take_all}
use Rattle.std.proofs.lemmas.Bool.{cond-true, cond-false}
use Rattle.records.specs.declared.refusal.DecodeError.{DecodeError}
use Rattle.records.specs.declared.refusal.DecodeError.TheVariants.{Empty, CutShort}
use Rattle.records.specs.Codec.{two, three, split, cut, held, gives, answered, decoded_from, decoded}
use Rattle.records.specs.Instructions.{Instruction}

whole : (xs : List ℕ) (n k : ℕ) → n ≡ length xs + k → xs ≡ take (n - k) xs
whole xs n k e = sym (take_all (n - k) xs (omega arith))

pub split_three : (s : List ℕ) → 3 ≤ length s → eqb (get_or s 0 0 % 2) 1 ≡ true → split s ≡ Ok (cut (three (get_or s 0 0) (get_or s 1 0) (get_or s 2 0)) (take (length s - 3) (drop 3 s)))
split_three [] h e = absurd (omega arith)
split_three (low ∷ []) h e = absurd (omega arith)
split_three (low ∷ high ∷ []) h e = absurd (omega arith)
split_three (low ∷ high ∷ top ∷ rest) h e =
    cond-true (eqb (low % 2) 1) _ _ e ∙ ap (λ (r : List ℕ). Ok (cut (three low high top) r)) (whole rest (suc (suc (suc (length rest)))) 3 (omega arith))

pub split_two : (s : List ℕ) → 2 ≤ length s → eqb (get_or s 0 0 % 2) 1 ≡ false → split s ≡ Ok (cut (two (get_or s 0 0) (get_or s 1 0)) (take (length s - 2) (drop 2 s)))
split_two [] h e = absurd (omega arith)
split_two (low ∷ []) h e = absurd (omega arith)
split_two (low ∷ high ∷ []) h e = cond-false (eqb (low % 2) 1) _ _ e
split_two (low ∷ high ∷ top ∷ rest) h e =
    cond-false (eqb (low % 2) 1) _ _ e ∙ ap (λ (r : List ℕ). Ok (cut (two low high) r)) (whole (top ∷ rest) (suc (suc (suc (length rest)))) 2 (omega arith))

-- what an accepted string says of its parts
answered_ok : (s : List ℕ) (o : Option Instruction) (r : List ℕ) (x : Instruction) (rest : List ℕ) → answered s o r ≡ gives (Ok x) rest → (o ≡ Some x) × (r ≡ rest)
answered_ok s o r x rest e = (grind arith, grind arith)

-- a refusal is no instruction
never : (s : List ℕ) (e : DecodeError) (x : Instruction) (rest : List ℕ) → gives (Err e) s ≡ gives (Ok x) rest → ⊥
never s e x rest h = grind arith

-- the bytes after the first: two of three, or one of two
abbrev pub following : Bool → ℕ → ℕ → List ℕ
following true h t = h ∷ t ∷ []
following false h t = h ∷ []

-- a string that decodes, taken apart
pub record Apart (s : List ℕ) (x : Instruction) (rest : List ℕ) : Type 0 where
  pub low : ℕ
  pub high : ℕ
  pub top : ℕ
  pub long : Bool
  pub told : eqb (low % 2) 1 ≡ long
  pub none : long ≡ false → top ≡ 0
  pub holds : held low high top ≡ Some x
  pub whole : low ∷ following long high top ++ rest ≡ s

apart_three : (low h t : ℕ) (r : List ℕ) (x : Instruction) (rest : List ℕ) → eqb (low % 2) 1 ≡ true → answered (low ∷ h ∷ t ∷ r) (held low h t) r ≡ gives (Ok x) rest → Apart (low ∷ h ∷ t ∷ r) x rest
apart_three low h t r x rest e d =
    let a = answered_ok (low ∷ h ∷ t ∷ r) (held low h t) r x rest d in
    record { low = low; high = h; top = t; long = true; told = e; none = λ p. absurd cc; holds = a.0; whole = ap (λ (l : List ℕ). low ∷ h ∷ t ∷ l) (sym a.1) }

apart_two : (low h : ℕ) (r : List ℕ) (x : Instruction) (rest : List ℕ) → eqb (low % 2) 1 ≡ false → answered (low ∷ h ∷ r) (held low h 0) r ≡ gives (Ok x) rest → Apart (low ∷ h ∷ r) x rest
apart_two low h r x rest e d =
    let a = answered_ok (low ∷ h ∷ r) (held low h 0) r x rest d in
    record { low = low; high = h; top = 0; long = false; told = e; none = λ p. refl; holds = a.0; whole = ap (λ (l : List ℕ). low ∷ h ∷ l) (sym a.1) }

pub apart : (s : List ℕ) (x : Instruction) (rest : List ℕ) → decoded s ≡ gives (Ok x) rest → Apart s x rest
unfolding decoded
apart [] x rest e = absurd (never [] Empty x rest e)
apart (low ∷ []) x rest e = absurd (never (low ∷ []) CutShort x rest e)
apart (low ∷ h ∷ []) x rest e =
    let s : List ℕ = low ∷ h ∷ [] in
    elim (eqb (low % 2) 1) as (λ v. eqb (low % 2) 1 ≡ v → decoded_from s (cond v (Err CutShort) (Ok (cut (two low h) []))) ≡ gives (Ok x) rest → Apart s x rest)
    [ true ↦ λ p d. absurd (never s CutShort x rest d) | false ↦ λ p d. apart_two low h [] x rest p d ] refl e
apart (low ∷ h ∷ t ∷ r) x rest e =
    let s : List ℕ = low ∷ h ∷ t ∷ r in
    elim (eqb (low % 2) 1) as (λ v. eqb (low % 2) 1 ≡ v → decoded_from s (cond v (Ok (cut (three low h t) r)) (Ok (cut (two low h) (t ∷ r)))) ≡ gives (Ok x) rest → Apart s x rest)
    [ true ↦ λ p d. apart_three low h t r x rest p d | false ↦ λ p d. apart_two low h (t ∷ r) x rest p d ] refl e

-- what follows an instruction is shorter
pub shorter : (s : List ℕ) (x : Instruction) (rest : List ℕ) → decoded s ≡ gives (Ok x) rest → length rest < length s
shorter s x rest e =
    let a = apart s x rest e in
    omega (arith, ap length a.whole, length-append (following a.long a.high a.top) rest)
