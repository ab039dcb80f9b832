mod Feeds
pub mod Answers
pub mod Fronts
pub mod Outcomes
pub mod Scripts
pub mod Takes
pub mod Reporting
