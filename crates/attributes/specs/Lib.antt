-- What the P and the U chart are and answer, in the order in which to read it.
pub mod Kinds
pub mod Records
pub mod Evaluating
pub mod Steps
