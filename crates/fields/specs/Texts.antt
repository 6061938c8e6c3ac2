-- A register as it is typed.
-- Assumes nothing.
use Rattle.std.specs.Prelude.{ℕ, List, ◌++◌, codes, decimal}

abbrev pub register_text : ℕ → List ℕ
register_text n = codes "x" ++ decimal n
