pub mod Labels
pub mod Reference
pub mod Source
pub mod Meaning
