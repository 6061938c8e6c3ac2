pub mod Failing
pub mod Blocks
pub mod Protected
pub mod Kept
pub mod Placed
