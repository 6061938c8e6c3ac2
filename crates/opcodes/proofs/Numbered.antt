-- A kind by its number, in a table with a row for each. Assumes nothing.
use Rattle.std.proofs.Common.{◌≡◌, ℕ, ◌-◌, List, map, length, get_or, Some, None, Option, Bor, sym, ap, ◌∙◌, arith}
use Rattle.std.proofs.Math.ListN.{get_or-map}
use Rattle.std.proofs.lemmas.List.{length-map}
use Rattle.std.proofs.lemmas.Option.{slice_get-map, slice_get-get_or, slice_get_past, get_or_from_slice_get}
use Rattle.std.specs.List.{slice_get}
use Rattle.std.specs.Option.{option_map}
use Rattle.std.specs.Slice.{IsItemAt}
use Rattle.opcodes.specs.declared.kind.Kind.{Kind}
use Rattle.opcodes.specs.declared.kind.Row.{Row}
use Rattle.opcodes.specs.Kinds.{number, name, code, format, kinds}
use Rattle.opcodes.specs.Rows.{IsRow, IsTable}

-- the list of the kinds has each at its number, from 1 on
pub at_number : (k : Kind) → slice_get kinds (number k - 1) ≡ Some k
at_number k = grind arith

-- a column of a table that is a column of the kinds is so in each row
in_row : {X : Type 0} (f : Row → X) (g : Kind → X) (rows : List Row) → map f rows ≡ map g kinds → (d : Row) (k : Kind) → f (get_or rows (number k - 1) d) ≡ g k
in_row f g rows e d k =
    sym (get_or-map f rows (number k - 1) d)
    ∙ ap (λ xs. get_or xs (number k - 1) (f d)) e
    ∙ get_or_from_slice_get (map g kinds) (number k - 1) (g k) (f d) (slice_get-map g kinds (number k - 1) ∙ ap (option_map g) (at_number k))

pub row_at : (rows : List Row) → IsTable rows → (d : Row) (k : Kind) → IsRow k (get_or rows (number k - 1) d)
row_at rows t d k =
    record {
      kind = in_row (λ (r : Row). r.0) (λ (j : Kind). j) rows t.of_kinds d k;
      name = in_row (λ (r : Row). r.1.now) name rows t.of_names d k;
      code = in_row (λ (r : Row). r.2) code rows t.of_codes d k;
      format = in_row (λ (r : Row). r.3) format rows t.of_formats d k;
    }

-- the kind in the row that a table lends at a place, if it has one
pub lent : (rows : List Row) → IsTable rows → (i : ℕ) (r : Option (Bor Row)) → IsItemAt rows i r → option_map (λ (x : Bor Row). x.now.0) r ≡ slice_get kinds i
lent rows t i None h =
    let size : length rows ≡ length kinds = sym (length-map rows (λ (r : Row). r.0)) ∙ ap length t.of_kinds in
    sym (slice_get_past kinds i (omega (arith, h.3, size)))
lent rows t i (Some x) h =
    ap (λ (y : Row). Some y.0) h.1
    ∙ ap (option_map (λ (r : Row). r.0)) (sym (slice_get-get_or rows i x.now h.3.0))
    ∙ sym (slice_get-map (λ (r : Row). r.0) rows i)
    ∙ ap (λ (ks : List Kind). slice_get ks i) t.of_kinds
