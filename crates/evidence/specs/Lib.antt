-- What the window behind a mark is, in the order in which to read it.
pub mod Evidence
pub mod Steps
