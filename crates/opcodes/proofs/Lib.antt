pub mod Below
pub mod Every
pub mod Named
pub mod Numbered
pub mod Widths
