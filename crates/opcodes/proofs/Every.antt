-- A test that passes at every kind, by one computation over the list of the kinds. Assumes nothing.
use Rattle.std.proofs.Common.{◌≡◌, ℕ, zero, suc, ◌-◌, Bool, true, ◌&&◌, List, [], ◌∷◌, Some, sym, ap, ◌∙◌, subst, arith}
use Rattle.std.specs.List.{slice_get}
use Rattle.std.proofs.lemmas.Bool.{and_parts}
use Rattle.opcodes.specs.declared.kind.Kind.{Kind}
use Rattle.opcodes.specs.Kinds.{number, kinds}
use Rattle.opcodes.proofs.Numbered.{at_number}

pub same_number : (j k : Kind) → number j ≡ number k → j ≡ k
same_number j k e = let d : Some j ≡ Some k = sym (at_number j) ∙ ap (λ (n : ℕ). slice_get kinds (n - 1)) e ∙ at_number k in cc

abbrev pub all_of : (Kind → Bool) → List Kind → Bool
all_of p [] = true
all_of p (k ∷ ks) = p k && all_of p ks

passes_at : (p : Kind → Bool) (ks : List Kind) (i : ℕ) (k : Kind) → all_of p ks ≡ true → slice_get ks i ≡ Some k → p k ≡ true
passes_at p [] i k h e = grind arith
passes_at p (j ∷ ks) zero k h e = let d : j ≡ k = cc in subst (λ (n : Kind). p n ≡ true) d (and_parts (p j) (all_of p ks) h).0
passes_at p (j ∷ ks) (suc i) k h e = passes_at p ks i k (and_parts (p j) (all_of p ks) h).1 e

pub every : (p : Kind → Bool) → all_of p kinds ≡ true → (k : Kind) → p k ≡ true
every p h k = passes_at p kinds (number k - 1) k h (at_number k)
