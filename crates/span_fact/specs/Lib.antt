pub use Rattle.r3k_live.specs.Marks
pub use Rattle.r3k_live.specs.Record
pub mod Span
