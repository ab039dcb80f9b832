pub mod Region
pub mod State
pub mod Lines
pub mod Access
pub mod Tick
pub mod Quiet
pub mod Schedule
pub mod Same
