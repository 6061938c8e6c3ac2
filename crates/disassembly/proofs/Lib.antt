pub mod Encoded
pub mod Runs
pub mod Shown
