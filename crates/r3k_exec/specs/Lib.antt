pub use Rattle.r3k_word.specs.Word
pub use Rattle.r3k_decode.specs.Operation
pub use Rattle.r3k_decode.specs.Decoding
pub mod Access
pub mod Effects
