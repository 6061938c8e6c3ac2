pub mod Codec
pub mod Images
pub mod Instructions
pub mod Layouts
pub mod Records
pub mod Refusals
pub mod Shapes
pub mod Texts
