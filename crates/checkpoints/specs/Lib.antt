pub use Rattle.span_fact.specs.Span
pub mod Kept
pub mod Rows
