-- What a listing has written, from line to line. Assumes nothing.
use Rattle.std.proofs.Common.{◌≡◌, ℕ, zero, suc, ◌+◌, ◌-◌, ◌<◌, ◌≤◌, List, [], ◌∷◌, ◌++◌, length, take, Ok, Err, refl, ap, ◌∙◌, append_assoc, arith}
use Rattle.std.proofs.lemmas.Bool.Decides.{nat_tests}
use Rattle.records.specs.declared.refusal.DecodeError.{DecodeError}
use Rattle.records.specs.Codec.{Decoded, decoded, gives}
use Rattle.records.specs.Instructions.{Instruction}
use Rattle.records.proofs.Splits.{shorter}
use Rattle.disassembly.specs.Listings.{line, refusal_line, count_line, by_answer, listed, listing, stop}

-- the first line of what is left
none_left : (n at count : ℕ) → listed n at count [] ≡ count_line count
none_left zero at count = refl
none_left (suc n) at count = refl

some_left : (n at count : ℕ) (s : List ℕ) → 0 < length s → length s ≤ n → listed n at count s ≡ by_answer at count s (decoded s).answer (decoded s).rest (listed (n - 1))
some_left zero at count s h le = absurd (omega arith)
some_left (suc n) at count [] h le = absurd (omega arith)
some_left (suc n) at count (b ∷ s) h le = let e : suc n - 1 ≡ n = omega arith in rw e

pub first_line : (n at count : ℕ) (s : List ℕ) (x : Instruction) (rest : List ℕ) → length rest < length s → length s ≤ n → decoded s ≡ gives (Ok x) rest → listed n at count s ≡ line at (take (length s - length rest) s) x ++ listed (n - 1) (at + (length s - length rest)) (count + 1) rest
first_line n at count s x rest less le d = some_left n at count s (omega arith) le ∙ rw d

pub stopped : (n at count : ℕ) (s : List ℕ) (e : DecodeError) → (decoded s).answer ≡ Err e → length s ≤ n → listed n at count s ≡ stop at s e ++ count_line count
stopped n at count [] e d le = none_left n at count
stopped n at count (b ∷ s) e d le = some_left n at count (b ∷ s) (omega arith) le ∙ rw d

stop_none : (at : ℕ) (s : List ℕ) (e : DecodeError) → length s ≡ 0 → stop at s e ≡ []
stop_none at [] e none = refl
stop_none at (b ∷ s) e none = absurd (omega arith)

stop_some : (at : ℕ) (s : List ℕ) (e : DecodeError) → 0 < length s → stop at s e ≡ refusal_line at e
stop_some at [] e some = absurd (omega arith)
stop_some at (b ∷ s) e some = refl

-- what is written, and what is listed of the rest, is what is listed of the filter; there are no more instructions than bytes
abbrev pub Sofar : List ℕ → List ℕ → ℕ → List ℕ → Type 0
Sofar filter rest count out = (count + length rest ≤ length filter) × (out ++ listed (length filter - count) (length filter - length rest) count rest ≡ listed (length filter) 0 0 filter)

module _ (filter rest : List ℕ) (count : ℕ) (out : List ℕ) (sofar : Sofar filter rest count out) where
  abbrev at : ℕ
  at = length filter - length rest

  pub one_more : (rest' out' : List ℕ) (x : Instruction) → decoded rest ≡ gives (Ok x) rest' → out' ≡ out ++ line at (take (length rest - length rest') rest) x → Sofar filter rest' (count + 1) out'
  one_more rest' out' x d e =
      let less = shorter rest x rest' d in
      let fuel : length filter - (count + 1) ≡ length filter - count - 1 = omega arith in
      let on : length filter - length rest' ≡ at + (length rest - length rest') = omega arith in
      (omega arith, rw (fuel, on, e, append_assoc, ← first_line (length filter - count) at count rest x rest' less (omega arith) d) sofar.1)

  -- where the rest is refused, the listing ends
  module _ (e : DecodeError) (refused : decoded rest ≡ gives (Err e) rest) where
    at_stop : out ++ (stop at rest e ++ count_line count) ≡ listed (length filter) 0 0 filter
    at_stop = rw (← stopped (length filter - count) at count rest e (ap (λ (v : Decoded). v.answer) refused) (omega arith)) sofar.1

    pub at_refusal : (mid out' : List ℕ) → 0 < length rest → mid ≡ out ++ refusal_line at e → out' ≡ mid ++ count_line count → out' ≡ listed (length filter) 0 0 filter
    at_refusal mid out' some p q = rw (q, p, append_assoc) (rw (stop_some at rest e some) at at_stop)

    pub at_end : (out' : List ℕ) → length rest ≡ 0 → out' ≡ out ++ count_line count → out' ≡ listed (length filter) 0 0 filter
    at_end out' none p = p ∙ (rw (stop_none at rest e none) at at_stop)

-- of a filter that is not too long
pub within : (s : List ℕ) → length s ≤ 65536 → listing s ≡ listed (length s) 0 0 s
unfolding listing
within s h = grind (arith, nat_tests)
