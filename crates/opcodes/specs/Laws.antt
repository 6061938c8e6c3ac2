-- The rule of the opcode table.
-- Assumes nothing.
use Rattle.std.specs.Prelude.{◌≡◌, ℕ, suc, ◌%◌, ◌^◌, ◌<◌, List, [], ◌∷◌, map, Some, None, Option}
use Rattle.std.specs.List.{range_with_len}
use Rattle.opcodes.specs.declared.kind.Kind.{Kind}
use Rattle.opcodes.specs.Formats.{code_width}
use Rattle.opcodes.specs.Kinds.{code, format}
use Rattle.opcodes.specs.Table.{named}

-- a first byte names a kind exactly where the kind's code stands in its low bits
abbrev pub TableRule : Type 0
TableRule =
    (low : ℕ) → low < 256 → (k : Kind) → (named low ≡ Some k → low % 2 ^ code_width (format k) ≡ code k) × (low % 2 ^ code_width (format k) ≡ code k → named low ≡ Some k)

abbrev pub count : List (Option Kind) → ℕ
count [] = 0
count (None ∷ os) = count os
count (Some k ∷ os) = suc (count os)

abbrev pub TableNames130 : Type 0
TableNames130 = count (map named (range_with_len 0 256)) ≡ 130
