pub mod Plain
pub use Rattle.present_run.proofs.Counts
