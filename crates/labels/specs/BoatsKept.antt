-- Sets of boats keep the laws of a labelling, bit by bit.
-- Assumes nothing.
use Rattle.std.specs.Prelude.{◌≡◌, ℕ, ◌≤◌, bit_and, bit_or, refl}
use Rattle.std.proofs.Common.{ap, arith}
use Rattle.std.proofs.lemmas.Bool.Decides.{Decides-eqb}
use Rattle.std.specs.Int.{bit_at}
use Rattle.std.proofs.lemmas.Nat.Bits.{bit_at_and, bit_at_or, same_from_bits}
use Rattle.labels.specs.Laws.{OpenToAll, SeenAsBoth}
use Rattle.labels.specs.Decided.{seen_as_both_by}
use Rattle.labels.specs.Boats.{among}

pub open_to_all : OpenToAll among
open_to_all reader = refl

-- what the test decides
abbrev Among : ℕ → ℕ → Type 0
Among reader label = bit_and label reader ≡ label

-- which is that each bit of the label is one of the reader's
abbrev AmongBits : ℕ → ℕ → Type 0
AmongBits reader label = (i : ℕ) → bit_at label i ≤ bit_at reader i

bits_among : (reader label : ℕ) → Among reader label → AmongBits reader label
bits_among reader label e i = omega (arith, bit_at_and label reader i, ap (λ n. bit_at n i) e)

among_bits : (reader label : ℕ) → AmongBits reader label → Among reader label
among_bits reader label h = same_from_bits (bit_and label reader) label (λ i. omega (arith, bit_at_and label reader i, h i))

-- a union is among the reader's bits exactly when both sets are
abbrev UnionAmong : ℕ → ℕ → ℕ → Type 0
UnionAmong reader a b = (Among reader (bit_or a b) → Among reader a × Among reader b) × (Among reader a × Among reader b → Among reader (bit_or a b))

union_among : (reader a b : ℕ) → UnionAmong reader a b
union_among reader a b = (
  λ h. let whole = bits_among reader (bit_or a b) h in (among_bits reader a (λ i. omega (arith, bit_at_or a b i, whole i)), among_bits reader b (λ i. omega (arith, bit_at_or a b i, whole i))),
  λ h. let left = bits_among reader a h.0 in let right = bits_among reader b h.1 in among_bits reader (bit_or a b) (λ i. omega (arith, bit_at_or a b i, left i, right i)),
)

pub seen_as_both : SeenAsBoth bit_or among
seen_as_both =
    seen_as_both_by bit_or among Among (λ reader label. Decides-eqb (bit_and label reader) label)
    (λ reader a b. (union_among reader a b).0)
    (λ reader a b. (union_among reader a b).1)
