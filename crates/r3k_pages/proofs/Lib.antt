pub mod Ascending
mod Blank
pub mod Kept
pub mod Set
pub mod Blocks
pub mod Altered
pub mod Marked
pub mod Overlaid
mod Removed
