pub mod Bits
pub mod Time
pub mod Divider
pub mod Clock
pub mod Tick
pub mod Same
pub mod Second
pub mod Quiet
