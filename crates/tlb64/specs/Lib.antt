pub use Rattle.r3k_word.specs.Word
pub mod Entries
pub mod Lookup
pub mod Sets
pub mod Kept
pub mod Same
