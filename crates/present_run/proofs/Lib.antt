mod Rejoining
mod Agreeing
mod Carry
mod Consoles
mod Counting
pub mod Counts
mod Edited
mod Entries
mod Held
mod Indexed
mod Joined
mod Jumping
mod Known
mod Lacking
pub mod Near
mod Nearest
mod Patches
mod Seeks
mod Sending
pub mod Spans
mod Reports
mod Totals
mod Touched
mod StaysOut
mod Pieces
mod Written
