-- The refusals of a store: the number of each, and the address that it tells.
-- Assumes nothing.
use Rattle.std.specs.Prelude.{ℕ}
use Rattle.memory.specs.declared.fault.StoreFault.{StoreFault}
use Rattle.memory.specs.declared.fault.StoreFault.TheVariants.{Outside, Protected}

pub record Told : Type 0 where
  pub number : ℕ
  pub address : ℕ

abbrev pub told : StoreFault → Told
told (Outside a) = record { number = 41; address = a }
told (Protected a) = record { number = 42; address = a }
