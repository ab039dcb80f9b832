pub use Rattle.r3k_word.specs.Layout
pub mod Pages
pub mod Blocks
pub mod Changes
pub mod Groups
pub mod Marking
