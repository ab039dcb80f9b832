pub mod Recorded
pub mod Wrote
mod Marking
pub mod Going
pub mod Writers
pub mod Apart
pub mod Overlaid
pub mod Gone
mod Slots
mod Holding
mod Noted
mod CodePages
mod Ready
mod Leads
mod Quick
mod Touched
mod Turns
