-- The rule of the opcode table: a first byte names the kind whose code stands in its low bits, as many as the format has for the code.
-- Assumes nothing.
use Rattle.std.specs.Prelude.{ℕ, ◌%◌, ◌^◌, Bool, cond, List, [], ◌∷◌, Some, None, Option, ◌==◌}
use Rattle.opcodes.specs.declared.kind.Kind.{Kind}
use Rattle.opcodes.specs.Formats.{code_width}
use Rattle.opcodes.specs.Kinds.{code, format, kinds}

abbrev pub names : ℕ → Kind → Bool
names low k = low % 2 ^ code_width (format k) == code k

-- the first of some kinds that passes a test
abbrev pub first : (Kind → Bool) → List Kind → Option Kind
first p [] = None
first p (k ∷ ks) = cond (p k) (Some k) (first p ks)

unfoldable pub named : ℕ → Option Kind
named low = first (names low) kinds
