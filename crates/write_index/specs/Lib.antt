pub mod Pages
pub mod Tree
