pub mod Arrays
pub mod Same
