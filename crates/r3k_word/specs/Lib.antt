pub mod Word
pub mod Layout
pub mod Reading
