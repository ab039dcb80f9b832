pub use Rattle.r3k_image.specs.Boot
pub mod Fault
pub mod Options
