mod Destinations
mod Fetched
mod Untouched
mod Zero
pub mod Carried
pub mod Elsewhere
pub mod Quiet
pub mod Splits
pub mod Within
pub mod Plain
