pub mod Calls
pub mod Plan
