pub mod Counts
pub mod Least
pub mod Bits
pub mod Candidates
pub mod Written
pub mod Keeping
