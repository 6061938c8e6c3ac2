-- The law of the equality of kinds, which is that of their numbers.
-- Assumes nothing.
use Rattle.std.specs.Prelude.{◌==◌}
use Rattle.std.specs.Cmp.{IsPartialEquivalence, nat_eq_equiv}
use Rattle.std.proofs.Common.{◌∙◌}
use Rattle.opcodes.specs.declared.kind.Kind.{Kind}
use Rattle.opcodes.specs.Kinds.{number}

-- equal numbers compare as equal numbers do
pub equal_numbers : IsPartialEquivalence (λ (j k : Kind). number j == number k)
equal_numbers = record {
  symm = λ j k. nat_eq_equiv.symm (number j) (number k);
  trans = λ i j k p q. nat_eq_equiv.congr (number i) (number j) (number k) p ∙ q;
}
