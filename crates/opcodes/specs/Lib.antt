pub mod Equality
pub mod Formats
pub mod Kinds
pub mod Laws
pub mod Rows
pub mod Table
