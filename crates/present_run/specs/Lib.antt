pub use Rattle.r3k_image.specs.Boot
pub use Rattle.input_log.specs.Event
pub use Rattle.r3k_machine.specs.Run
pub use Rattle.r3k_machine.specs.Traced
pub use Rattle.r3k_machine.specs.Jumps as MachineJumps
pub mod History
pub mod Sizes
pub mod Console
pub mod Reuse
pub mod Jumps
pub mod Ends
pub mod Sent
pub mod Index
pub mod RecentStates
pub mod Runs
pub mod TimelineView
pub mod Shown
