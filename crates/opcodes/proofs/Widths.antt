-- What holds of codes of five, six and eight bits holds of every format's. Assumes nothing.
use Rattle.std.proofs.Common.{ℕ, ◌-◌, ◌/◌, ◌^◌, ◌<◌, arith}
use Rattle.opcodes.specs.declared.format.Format.{Format}
use Rattle.opcodes.specs.Formats.{code_width}

pub by_width : (P : ℕ → Type 0) → P 5 → P 6 → P 8 → (f : Format) → P (code_width f)
by_width P five six eight f = grind arith

-- the bits of a byte above the code
pub above_lt : (f : Format) (low : ℕ) → low < 256 → low / 2 ^ code_width f < 2 ^ (8 - code_width f)
above_lt f low h = by_width (λ w. low / 2 ^ w < 2 ^ (8 - w)) (omega arith) (omega arith) (omega arith) f
