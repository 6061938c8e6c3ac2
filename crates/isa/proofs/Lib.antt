pub mod Redo
pub mod Round
pub mod Trips
pub mod Undo
