-- The cells that can be addressed, of however many.
-- Assumes nothing.
use Rattle.std.specs.Prelude.{◌≡◌, ◌≤◌, List, length, take, drop}
use Rattle.std.proofs.Common.{arith, length-take}
use Rattle.memory.specs.Memory.{most_cells}

unfoldable pub cut : {X : Type 0} → List X → List X
cut xs = take most_cells xs

-- and those past them
unfoldable pub rest : {X : Type 0} → List X → List X
rest xs = drop most_cells xs

-- as many as a size can count
pub cut_bounded : {X : Type 0} (xs : List X) → length (cut xs) ≤ most_cells
unfolding cut
cut_bounded xs = omega (arith, length-take most_cells xs)

-- and so are 256
pub small_bounded : {X : Type 0} (xs : List X) → length xs ≡ 256 → length xs ≤ most_cells
small_bounded xs sized = omega arith
