pub mod Refusals
pub mod Memory
pub mod Trimmed
pub mod Blocks
pub mod Laws
