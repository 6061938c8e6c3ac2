-- A byte of two parts. Assumes nothing.
use Rattle.std.proofs.Common.{◌≡◌, ℕ, zero, suc, ◌+◌, ◌*◌, ◌%◌, ◌^◌, ◌<◌, sym, subst, arith}

room : (w a b : ℕ) → w < 8 → a * 2 ^ w % 256 + b % (1 * 2 ^ w % 256) < 256
room zero a b h = omega arith
room (suc zero) a b h = omega arith
room (suc (suc zero)) a b h = omega arith
room (suc (suc (suc zero))) a b h = omega arith
room (suc (suc (suc (suc zero)))) a b h = omega arith
room (suc (suc (suc (suc (suc zero))))) a b h = omega arith
room (suc (suc (suc (suc (suc (suc zero)))))) a b h = omega arith
room (suc (suc (suc (suc (suc (suc (suc zero))))))) a b h = omega arith
room (suc (suc (suc (suc (suc (suc (suc (suc w)))))))) a b h = absurd (omega arith)

-- both parts have room in it, wherever they meet
pub fits : (w a b : ℕ) {high unit : ℕ} → w < 8 → high ≡ a * 2 ^ w % 256 → unit ≡ 1 * 2 ^ w % 256 → high + b % unit < 256
fits w a b {high} {unit} h p q = subst (λ (n : ℕ). n + b % unit < 256) (sym p) (subst (λ (u : ℕ). a * 2 ^ w % 256 + b % u < 256) (sym q) (room w a b h))
