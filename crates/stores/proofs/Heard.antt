-- The cells of an echo line, by address.
use Rattle.std.proofs.Common.{◌≡◌, ℕ, zero, suc, ◌*◌, ◌/◌, ◌%◌, ◌<◌, ◌≤◌, min, cond, eqb, List, [], ◌∷◌, length, get_or, take, Ok, Err, sym, refl, ap, ◌∙◌, arith}
use Rattle.std.proofs.lemmas.List.{take_min}
use Rattle.std.proofs.lemmas.Bool.Decides.{nat_tests}
use Rattle.memory.specs.declared.Cell.{Cell}
use Rattle.memory.specs.declared.StoreFault.TheVariants.{Outside}
use Rattle.memory.specs.Memory.{cell, blank, looked}
use Rattle.stores.specs.Cut.{cut}
use Rattle.stores.specs.Echo.{heard}

module _ (label : ℕ) where
  -- two cells for each sample
  pub heard_length : (ss : List ℕ) → length (heard label ss) ≡ 2 * length ss
  heard_length [] = refl
  heard_length (s ∷ ss) = omega (arith, heard_length ss)

  two_more : (n : ℕ) → 2 * suc n ≡ suc (suc (2 * n))
  two_more n = omega arith

  -- of the first samples the first cells
  heard_taken : (n : ℕ) (ss : List ℕ) → take (2 * n) (heard label ss) ≡ heard label (take n ss)
  heard_taken zero ss = refl
  heard_taken (suc n) [] = rw (two_more n) refl
  heard_taken (suc n) (s ∷ ss) = rw (two_more n, heard_taken n ss) refl

  -- as many as can be addressed
  pub heard_cut : (n : ℕ) (ss : List ℕ) → n ≡ min 32768 (length ss) → heard label (take n ss) ≡ cut (heard label ss)
  unfolding cut
  heard_cut n ss h = ap (λ n. heard label (take n ss)) h ∙ ap (heard label) (take_min 32768 ss) ∙ sym (heard_taken 32768 ss)

  -- the byte of a sample that stands at an address
  abbrev half : ℕ → ℕ → Cell
  half s a = cell (cond (eqb (a % 2) 0) (s % 256) (s / 256 % 256)) label

  -- each where its sample has it
  heard_at : (ss : List ℕ) (a : ℕ) → a / 2 < length ss → get_or (heard label ss) a blank ≡ half (get_or ss (a / 2) 0) a
  heard_at [] a h = absurd (omega arith)
  heard_at (s ∷ ss) zero h = refl
  heard_at (s ∷ ss) (suc zero) h = refl
  heard_at (s ∷ ss) (suc (suc a)) h =
      let quotient : suc (suc a) / 2 ≡ suc (a / 2) = omega arith in
      let remainder : suc (suc a) % 2 ≡ a % 2 = omega arith in
      rw (quotient, remainder) (heard_at ss a (omega arith))

  -- and so a look finds it
  pub heard_looked : (ss : List ℕ) (a : ℕ) → a / 2 < length ss → looked (heard label ss) a ≡ Ok (half (get_or ss (a / 2) 0) a)
  heard_looked ss a h =
      let twice = heard_length ss in
      let here = heard_at ss a h in
      grind (arith, nat_tests)

  pub heard_past : (ss : List ℕ) (a : ℕ) → length ss ≤ a / 2 → looked (heard label ss) a ≡ Err (Outside a)
  heard_past ss a h = let twice = heard_length ss in grind (arith, nat_tests)

pub ruleset hearing = (heard_length, heard_cut, heard_looked, heard_past)
