-- What a protection says past the size means nothing.
use Rattle.std.proofs.Common.{◌≡◌, ℕ, ◌<◌, Bool, true, false, ◌&&◌, ltb, List, length, set, sym, refl, ap, length-set, ltb-true, arith}
use Rattle.std.proofs.lemmas.Bool.Decides.{nat_tests}
use mathlib.Core.Path.{fun_ext}
use Rattle.memory.specs.declared.cell.Cell.{Cell}
use Rattle.memory.specs.Memory.{Memory, Trimmed, memory_of, holding}
use Rattle.memory.specs.Trimmed.{memory_trimmed}

-- a memory that protects nothing past its size is that of its cells under a protection that is alike below the size
pub as_trimmed : (m : Memory) (p : ℕ → Bool) → Trimmed m → ((a : ℕ) → a < length m.cells → p a ≡ m.protected a) → memory_of m.cells p ≡ m
as_trimmed m p trimmed same = ap (λ (protected : ℕ → Bool). record { cells = m.cells; protected = protected }) (fun_ext (λ a. by a (ltb a (length m.cells)) refl))
  where
    by : (a : ℕ) (t : Bool) → ltb a (length m.cells) ≡ t → (t && p a) ≡ m.protected a
    by a true e = same a (ltb-true a (length m.cells) e)
    by a false e = sym (trimmed a (grind (arith, nat_tests)))

-- protections that are alike below the size make the same memory
pub alike : (cells : List Cell) (p q : ℕ → Bool) → ((a : ℕ) → a < length cells → p a ≡ q a) → memory_of cells p ≡ memory_of cells q
alike cells p q same = as_trimmed (memory_of cells q) p (memory_trimmed cells q) (λ a inside. let e = same a inside in grind (arith, nat_tests))

-- a cell that is set leaves the protection as it was
pub set_holding : (cells : List Cell) (p : ℕ → Bool) (a : ℕ) (c : Cell) → memory_of (set cells a c) p ≡ holding (memory_of cells p) (set cells a c)
set_holding cells p a c = ap (λ size. record { cells = set cells a c; protected = λ b. ltb b size && p b }) (length-set cells a c)
