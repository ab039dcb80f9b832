pub mod FirstLine
pub mod LabelMap
pub mod Links
