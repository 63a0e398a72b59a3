-- The laws of marking.
mod Windows
pub mod Columns
mod Bitwise
mod Parts
mod Making
mod Signs
mod Marks
pub mod Blocks
pub mod Single
pub mod Stopped
pub mod ZoneLines
pub mod Meaning
pub mod Accepted
pub mod Answers
