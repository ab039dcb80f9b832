pub mod Number
pub mod Instruction
