pub mod Rows
pub mod Near
