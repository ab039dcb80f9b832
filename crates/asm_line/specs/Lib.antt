pub mod Span
pub mod Name
pub mod Number
pub mod Operand
pub mod Statement
