pub use Rattle.r3k_image.specs.Boot
pub use Rattle.r3k_image.specs.Patch
pub use Rattle.input_log.specs.Event
pub use Rattle.input_log.specs.Edits
pub use Rattle.r3k_machine.specs.Run
pub use Rattle.r3k_machine.specs.Jumps
pub use Rattle.r3k_machine.specs.Traced
pub use Rattle.refusal.specs.Given
pub use Rattle.present_run.specs.Sizes
pub use Rattle.present_run.specs.Console
pub use Rattle.present_run.specs.History
pub use Rattle.present_run.specs.Reuse
pub use Rattle.present_run.specs.Jumps as FoundJumps
pub use Rattle.present_run.specs.TimelineView
pub mod Query
