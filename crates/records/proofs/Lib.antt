pub mod Legal
pub mod Splits
