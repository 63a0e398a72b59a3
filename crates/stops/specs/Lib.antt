-- What stops are and where they cut a series, in the order in which to read it.
pub mod Stops
pub mod Cuts
