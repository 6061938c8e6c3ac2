-- What two memories put together mean: the cells of the lower, then those of the upper, cut.
-- Assumes nothing.
use Rattle.std.specs.Prelude.{◌≡◌, ℕ, ◌+◌, ◌-◌, Bool, cond, List, ◌++◌, length, take, Ok, Err, Result, nat_lt}
use Rattle.std.proofs.Common.{ap}
use Rattle.memory.specs.declared.Cell.{Cell}
use Rattle.memory.specs.declared.StoreFault.{StoreFault}
use Rattle.memory.specs.declared.StoreFault.TheVariants.{Outside, Protected}
use Rattle.memory.specs.Memory.{Memory, Trimmed, memory_of}
use Rattle.memory.specs.Trimmed.{memory_trimmed}
use Rattle.stores.specs.Cut.{cut}

-- each address is protected as in its own part
abbrev pub across : ℕ → (ℕ → Bool) → (ℕ → Bool) → ℕ → Bool
across joint lower upper a = cond (nat_lt a joint) (lower a) (upper (a - joint))

abbrev pub joined : Memory → Memory → Memory
joined lower upper = memory_of (cut (lower.cells ++ upper.cells)) (across (length lower.cells) lower.protected upper.protected)

pub joined_trimmed : (lower upper : Memory) → Trimmed (joined lower upper)
joined_trimmed lower upper = memory_trimmed (cut (lower.cells ++ upper.cells)) (across (length lower.cells) lower.protected upper.protected)

pub joined_cells : (lower upper : Memory) (cells : List Cell) → lower.cells ≡ cells → (joined lower upper).cells ≡ cut (cells ++ upper.cells)
joined_cells lower upper cells same = ap (λ (xs : List Cell). cut (xs ++ upper.cells)) same

-- what the whole says of its lower part, where the joint is known
abbrev pub lower_part : ℕ → Memory → Memory
lower_part joint whole = memory_of (take joint whole.cells) whole.protected

-- a fault of the upper part, with its address in the whole
abbrev pub raised : ℕ → StoreFault → StoreFault
raised joint (Outside a) = Outside (joint + a)
raised joint (Protected a) = Protected (joint + a)

abbrev pub in_whole : {X : Type 0} → ℕ → Result X StoreFault → Result X StoreFault
in_whole joint (Ok x) = Ok x
in_whole joint (Err f) = Err (raised joint f)
