pub use Rattle.r3k_word.specs.Word
pub mod Codes
pub mod Registers
pub mod Status
pub mod Exception
pub mod Changes
pub mod Same
