-- Protections that are alike at every address.
-- Assumes nothing.
use Rattle.std.specs.Prelude.{ℕ, Bool, true, false}

abbrev pub nothing : ℕ → Bool
nothing a = false

abbrev pub everything : ℕ → Bool
everything a = true
