-- What a point about a centre is, and what plotting answers, in the order in which to read it.
pub mod Points
pub mod Plotting
pub mod Steps
