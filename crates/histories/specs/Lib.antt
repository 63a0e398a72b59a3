-- What is kept of a lane, and what taking a value answers, in the order in which to read it.
pub mod Lanes
pub mod Taking
pub mod Runs
