pub mod Laws
pub mod Decided
pub mod Ranks
pub mod RanksKept
pub mod Boats
pub mod BoatsKept
