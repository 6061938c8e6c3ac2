-- Numbers in two's complement.
-- Assumes nothing.
use Rattle.std.specs.Prelude.{ℕ, suc, ◌+◌, ◌-◌, cond, ℤ, pos, negsuc, nat_lt}

-- the number that raw bits stand for, where half is the weight of the sign: 512 for ten bits
abbrev pub signed : ℕ → ℕ → ℤ
signed half n = cond (nat_lt n half) (pos n) (negsuc (half + half - suc n))

-- the sixteen bits of a number from -32768 to 32767; negsuc n is -(n + 1)
abbrev pub bits : ℤ → ℕ
bits (pos n) = n
bits (negsuc n) = 65536 - suc n
