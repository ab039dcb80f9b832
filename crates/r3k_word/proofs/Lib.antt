pub mod Fields
pub mod FieldLaws
pub mod Division
pub mod Read
