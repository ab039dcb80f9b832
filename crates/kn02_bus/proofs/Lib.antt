pub mod Quiet
pub mod Unseen
