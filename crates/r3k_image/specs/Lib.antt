pub mod Boot
pub mod Entries
pub mod Segments
pub mod Spelling
pub mod Reading
pub mod Writing
pub mod Patch
