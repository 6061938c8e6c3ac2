-- What every labelling owes.
-- Assumes nothing.
use Rattle.std.specs.Prelude.{◌≡◌, ℕ, Bool, true, ◌&&◌}

-- label 0 is hidden from no reader
abbrev pub OpenToAll : (ℕ → ℕ → Bool) → Type 0
OpenToAll seen = (reader : ℕ) → seen reader 0 ≡ true

-- a join is seen where both its labels are
abbrev pub SeenAsBoth : (ℕ → ℕ → ℕ) → (ℕ → ℕ → Bool) → Type 0
SeenAsBoth joined seen = (reader first second : ℕ) → seen reader (joined first second) ≡ (seen reader first && seen reader second)
