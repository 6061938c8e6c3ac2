-- How many figures a number has, by the powers of ten. Assumes nothing.
use Rattle.std.proofs.Common.{◌≡◌, ℕ, zero, suc, ◌+◌, ◌-◌, ◌*◌, ◌/◌, ◌%◌, ◌^◌, ◌<◌, ◌≤◌, List, [], ◌∷◌, ◌++◌, length, decimal, sym, ap, ◌∙◌, subst, pow-suc, arith, lit<, length-append}
use native.Mathlib.Nat.{pow-le-pow_right}
use Rattle.std.proofs.lemmas.Fmt.{decimal_by_steps, decimal_digit, length-decimal-le}

-- a number has more figures than the exponent of each power of ten up to it
abbrev More : ℕ → List ℕ → Type 0
More n ds = (k : ℕ) → 10 ^ k ≤ n → k < length ds

-- a number below 10
one_figure : (n : ℕ) → n < 10 → More n ((48 + n) ∷ [])
one_figure n h zero le = omega arith
one_figure n h (suc k) le =
    let big : 1 ≤ 10 ^ k = pow-le-pow_right (lit< tt) {i = 0} {j = k} (omega arith) in
    absurd (omega (arith, pow-suc 10 k))

-- a number whose front has them, with one figure after it
figure_more : (n : ℕ) (ds : List ℕ) → 10 ≤ n → More (n / 10) ds → More n (ds ++ ((48 + n % 10) ∷ []))
figure_more n ds h before zero le = omega (arith, length-append ds ((48 + n % 10) ∷ []))
figure_more n ds h before (suc k) le =
    let less : k < length ds = before k (omega (arith, pow-suc 10 k)) in
    omega (arith, length-append ds ((48 + n % 10) ∷ []))

-- each number of 64 bits, one figure at a time
more_figures : (n : ℕ) → n < 2 ^ 64 → More n (decimal n)
more_figures = decimal_by_steps More one_figure figure_more

-- the count of figures, from the powers on both sides of a number
pub counted : (n k : ℕ) → n < 2 ^ 64 → 1 ≤ k → n < 10 ^ k → 10 ^ (k - 1) ≤ n → k ≡ length (decimal n)
counted n k s one below above =
    let most = length-decimal-le k n one below s in
    let least = more_figures n s (k - 1) above in
    omega arith

-- a number below 10 has one figure, 0 too
pub counted_one : (n : ℕ) → n < 10 → 1 ≡ length (decimal n)
counted_one n h = ap length (sym (decimal_digit n h))

-- the count by the logarithm to the base of ten
pub by_log : (n k : ℕ) → n < 2 ^ 64 → 10 ^ k ≤ n → n < 10 * 10 ^ k → k + 1 ≡ length (decimal n)
by_log n k s above below =
    let place : k ≡ suc k - 1 = omega arith in
    let count : k + 1 ≡ suc k = omega arith in
    count ∙ counted n (suc k) s (omega arith) (omega (arith, pow-suc 10 k)) (subst (λ (i : ℕ). 10 ^ i ≤ n) place above)

pub ruleset counts = (counted_one, by_log)
