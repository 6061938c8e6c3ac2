pub mod Cuts
pub mod Heard
pub mod Joints
pub mod Apart
