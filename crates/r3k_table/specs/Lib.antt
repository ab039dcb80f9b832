pub mod Table
pub mod Fields
pub mod View
pub mod Operands
pub mod Mnemonics
