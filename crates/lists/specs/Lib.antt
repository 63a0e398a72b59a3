-- What reading finds, how what is ours is written, what comparing says, and how far a replay has come.
pub mod Found
pub mod Reading
pub mod Ours
pub mod Outcomes
pub mod Runs
