pub mod Cut
pub mod Echo
pub mod Joints
pub mod Protection
pub mod Laws
