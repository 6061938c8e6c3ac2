pub mod Bits
pub mod Texts
