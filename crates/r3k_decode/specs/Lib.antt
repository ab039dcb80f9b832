pub use Rattle.r3k_table.specs.Table
pub mod Kept
pub mod Operation
pub mod Decoding
pub mod Fields
pub mod Seen
pub mod Jump
pub mod Target
