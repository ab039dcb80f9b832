pub mod ClockNumbers
pub mod Digits
pub mod Numbers
pub mod OperandList
pub mod Rows
pub mod Spans
