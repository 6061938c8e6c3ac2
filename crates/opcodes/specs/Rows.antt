-- The table of the kinds as the code has it: a row for each kind, by number.
-- Assumes nothing.
use Rattle.std.specs.Prelude.{◌≡◌, List, map}
use Rattle.opcodes.specs.declared.kind.Kind.{Kind}
use Rattle.opcodes.specs.declared.kind.Row.{Row}
use Rattle.opcodes.specs.Kinds.{name, code, format, kinds}

-- a row that says of a kind what the rules say
pub record IsRow (k : Kind) (r : Row) : Type 0 where
  pub kind : r.0 ≡ k
  pub name : r.1.now ≡ name k
  pub code : r.2 ≡ code k
  pub format : r.3 ≡ format k

-- the columns of a table, each as the rules have it for all kinds
pub record IsTable (rows : List Row) : Type 0 where
  pub of_kinds : map (λ (r : Row). r.0) rows ≡ kinds
  pub of_names : map (λ (r : Row). r.1.now) rows ≡ map name kinds
  pub of_codes : map (λ (r : Row). r.2) rows ≡ map code kinds
  pub of_formats : map (λ (r : Row). r.3) rows ≡ map format kinds
