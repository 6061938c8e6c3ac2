-- The opcode table's rule in both directions: a first byte names a kind exactly where the kind's code stands in its low bits.
-- Assumes nothing.
use Rattle.std.proofs.Common.{◌≡◌, ℕ, ◌+◌, ◌-◌, ◌*◌, ◌/◌, ◌%◌, ◌^◌, ◌<◌, Bool, true, false, cond, not, ◌&&◌, ◌||◌, eqb, ltb, List, [], ◌∷◌, Some, None, Option, refl, ap, ◌∙◌, subst, arith}
use Rattle.std.proofs.lemmas.Bool.{eq-eqb, eqb-true, ltb-true, and_parts}
use Rattle.opcodes.specs.declared.kind.Kind.{Kind}
use Rattle.opcodes.specs.declared.format.Format.{Format}
use Rattle.opcodes.specs.declared.format.Format.TheVariants.{RegRegReg, RegRegShift, RegRegImm, RegLongImm, Branch, Memory, RegReg, RegImm, RegShift, Reg, Jump, Stack, Bare}
use Rattle.opcodes.specs.Formats.{code_width}
use Rattle.opcodes.specs.Kinds.{number, code, format, kinds}
use Rattle.opcodes.specs.Laws.{TableRule, TableNames130}
use Rattle.opcodes.specs.Table.{named, names, first}
use Rattle.opcodes.proofs.Below.{all_below, below}
use Rattle.opcodes.proofs.Every.{all_of, every, same_number}
use Rattle.opcodes.proofs.Widths.{by_width}

-- what is named has its code there
first_passes : (p : Kind → Bool) (ks : List Kind) (k : Kind) → first p ks ≡ Some k → p k ≡ true
first_passes p [] k e = grind arith
first_passes p (j ∷ ks) k e =
    elim (p j) as (λ b. p j ≡ b → cond b (Some j) (first p ks) ≡ Some k → p k ≡ true)
    [ true ↦ λ q d. let i : j ≡ k = cc in subst (λ (n : Kind). p n ≡ true) i q | false ↦ λ q d. first_passes p ks k d ] refl e

pub code_of : (low : ℕ) (k : Kind) → named low ≡ Some k → low % 2 ^ code_width (format k) ≡ code k
unfolding named
code_of low k e = eqb-true (low % 2 ^ code_width (format k)) (code k) (first_passes (names low) kinds k e)

-- and no two kinds have their codes in one byte: computed for every byte and every kind
abbrev is : Option Kind → Kind → Bool
is None k = false
is (Some j) k = eqb (number j) (number k)

is_it : (o : Option Kind) (k : Kind) → is o k ≡ true → o ≡ Some k
is_it None k e = grind arith
is_it (Some j) k e = ap (λ (n : Kind). Some n) (same_number j k (eqb-true (number j) (number k) e))

abbrev alone : ℕ → Kind → Bool
alone low k = not (names low k) || is (named low) k

alone_all : all_below (λ low. all_of (alone low) kinds) 256 ≡ true
unfolding named
alone_all = refl

second : (a b : Bool) → (not a || b) ≡ true → a ≡ true → b ≡ true
second a b h e = grind arith

pub named_by : (low : ℕ) → low < 256 → (k : Kind) → low % 2 ^ code_width (format k) ≡ code k → named low ≡ Some k
named_by low h k e =
    let t : alone low k ≡ true = every (alone low) (below (λ l. all_of (alone l) kinds) 256 alone_all low h) k in
    is_it (named low) k (second (names low k) (is (named low) k) t (eq-eqb (low % 2 ^ code_width (format k)) (code k) e))

pub ruled : TableRule
ruled low h k = (code_of low k, named_by low h k)

pub counted : TableNames130
unfolding named
counted = refl

-- whether a format has three bytes
abbrev pub long : Format → Bool
long RegRegReg = true
long RegRegShift = true
long RegRegImm = true
long RegLongImm = true
long Branch = true
long Memory = true
long RegReg = false
long RegImm = false
long RegShift = false
long Reg = false
long Jump = false
long Stack = false
long Bare = false

-- a code has room in its bits, and its bit 0 tells the length: computed for every kind
abbrev same : Bool → Bool → Bool
same a b = cond a b (not b)

same_is : (a b : Bool) → same a b ≡ true → a ≡ b
same_is a b e = grind arith

abbrev fitting : Kind → Bool
fitting k = ltb (code k) (2 ^ code_width (format k)) && same (eqb (code k % 2) 1) (long (format k))

fitting_all : (k : Kind) → fitting k ≡ true
fitting_all = every fitting refl

parts_of : (k : Kind) → (ltb (code k) (2 ^ code_width (format k)) ≡ true) × (same (eqb (code k % 2) 1) (long (format k)) ≡ true)
parts_of k = and_parts (ltb (code k) (2 ^ code_width (format k))) (same (eqb (code k % 2) 1) (long (format k))) (fitting_all k)

pub code_lt : (k : Kind) → code k < 2 ^ code_width (format k)
code_lt k = ltb-true (code k) (2 ^ code_width (format k)) (parts_of k).0

pub length_told : (low : ℕ) (k : Kind) → low % 2 ^ code_width (format k) ≡ code k → eqb (low % 2) 1 ≡ long (format k)
length_told low k e =
    let odd : low % 2 ≡ code k % 2 = by_width (λ w. low % 2 ^ w ≡ code k → low % 2 ≡ code k % 2) (λ d. omega arith) (λ d. omega arith) (λ d. omega arith) (format k) e in
    ap (λ (n : ℕ). eqb n 1) odd ∙ same_is (eqb (code k % 2) 1) (long (format k)) (parts_of k).1

-- a first byte taken apart and put together
pub first_byte_mod : (f : Format) (above code : ℕ) → code < 2 ^ code_width f → (above * 2 ^ code_width f + code) % 2 ^ code_width f ≡ code
first_byte_mod f above code = by_width (λ w. code < 2 ^ w → (above * 2 ^ w + code) % 2 ^ w ≡ code) (λ h. omega arith) (λ h. omega arith) (λ h. omega arith) f

pub first_byte_div : (f : Format) (above code : ℕ) → code < 2 ^ code_width f → (above * 2 ^ code_width f + code) / 2 ^ code_width f ≡ above
first_byte_div f above code = by_width (λ w. code < 2 ^ w → (above * 2 ^ w + code) / 2 ^ w ≡ above) (λ h. omega arith) (λ h. omega arith) (λ h. omega arith) f

pub first_byte_lt : (f : Format) (above code : ℕ) → above < 2 ^ (8 - code_width f) → code < 2 ^ code_width f → above * 2 ^ code_width f + code < 256
first_byte_lt f above code = by_width (λ w. above < 2 ^ (8 - w) → code < 2 ^ w → above * 2 ^ w + code < 256) (λ h d. omega arith) (λ h d. omega arith) (λ h d. omega arith) f

pub first_byte_whole : (f : Format) (low : ℕ) → low / 2 ^ code_width f * 2 ^ code_width f + low % 2 ^ code_width f ≡ low
first_byte_whole f low = by_width (λ w. low / 2 ^ w * 2 ^ w + low % 2 ^ w ≡ low) (omega arith) (omega arith) (omega arith) f
