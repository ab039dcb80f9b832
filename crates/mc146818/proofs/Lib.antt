pub mod Count
pub mod Countdown
pub mod Flags
pub mod Passed
pub mod Second
pub mod WithinUnit
