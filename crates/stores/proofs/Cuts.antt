-- A list that is cut.
use Rattle.std.proofs.Common.{◌≡◌, ℕ, zero, suc, ◌<◌, ◌≤◌, min, List, [], ◌∷◌, ◌++◌, length, get_or, take, set, refl, ap, ◌∙◌, arith, length-append, length-take}
use Rattle.std.proofs.lemmas.List.{take_min, get_or-take, drop-set-lt, take_all, take-append-le, take-take}
use Rattle.stores.specs.Cut.{cut, rest}
use Rattle.memory.specs.Memory.{most_cells}

-- an element set in a list, and in what is taken of it
take_of_set : {X : Type 0} (n : ℕ) (xs : List X) (a : ℕ) (y : X) → take n (set xs a y) ≡ set (take n xs) a y
take_of_set zero xs a y = refl
take_of_set (suc n) [] a y = refl
take_of_set (suc n) (x ∷ xs) zero y = refl
take_of_set (suc n) (x ∷ xs) (suc a) y = ap (λ r. x ∷ r) (take_of_set n xs a y)

-- how many are left,
pub cut_length : {X : Type 0} (xs : List X) → length (cut xs) ≡ min most_cells (length xs)
unfolding cut
cut_length xs = length-take most_cells xs

-- which,
pub cut_at : {X : Type 0} (xs : List X) (a : ℕ) (d : X) → a < most_cells → get_or (cut xs) a d ≡ get_or xs a d
unfolding cut
cut_at xs a d h = get_or-take most_cells xs a d h

-- with one of them set,
pub cut_set : {X : Type 0} (xs : List X) (a : ℕ) (y : X) → cut (set xs a y) ≡ set (cut xs) a y
unfolding cut
cut_set xs a y = take_of_set most_cells xs a y

-- and those past the cut, with one set before it
pub rest_set : {X : Type 0} (xs : List X) (a : ℕ) (y : X) → a < most_cells → rest (set xs a y) ≡ rest xs
unfolding rest
rest_set xs a y h = drop-set-lt most_cells xs a y h

-- which is what is taken of them up to the size
pub cut_taken : {X : Type 0} (xs : List X) (n : ℕ) → n ≡ min most_cells (length xs) → take n xs ≡ cut xs
unfolding cut
cut_taken xs n h = ap (λ n. take n xs) h ∙ take_min most_cells xs

-- all of them, where they are few
pub uncut : {X : Type 0} (xs : List X) → length xs ≤ most_cells → cut xs ≡ xs
unfolding cut
uncut xs few = take_all most_cells xs few

-- what comes first of two lists, both cut
pub cut_front : {X : Type 0} (xs ys : List X) → length xs ≤ most_cells → take (length xs) (cut (xs ++ ys)) ≡ xs
unfolding cut
cut_front xs ys few = take-take (length xs) most_cells (xs ++ ys) few ∙ take-append-le (length xs) xs ys (omega arith) ∙ take_all (length xs) xs (omega arith)

-- an address of the first list is one of both, cut
pub front_inside : {X : Type 0} (xs ys : List X) (a : ℕ) → length xs ≤ most_cells → a < length xs → a < length (cut (xs ++ ys))
front_inside xs ys a few h = omega (arith, cut_length (xs ++ ys), length-append xs ys)

pub ruleset cuts = (cut_length, cut_at, cut_set, rest_set)

pub ruleset sums = (cut_length, length-append)
