pub mod Limits
pub mod Event
pub mod Log
pub mod Edits
pub mod Spelling
pub mod Reading
