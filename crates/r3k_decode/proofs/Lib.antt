pub mod Six
pub mod Shapes
pub mod Inverse
pub mod Jumps
