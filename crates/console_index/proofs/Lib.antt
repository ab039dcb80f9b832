pub mod Sums
pub mod Spans
