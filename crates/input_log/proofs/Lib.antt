pub mod Filter
pub mod Window
pub mod Loop
pub mod Fields
pub mod Logs
pub mod Editing
pub mod Erased
pub mod Edited
