pub mod Merge
pub mod Putting
pub mod Searching
