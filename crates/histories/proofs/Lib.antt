-- The laws of lanes: bits, marks, answers, and what the marks of any values are.
mod Bits
pub mod Marks
pub mod Answers
pub mod Patterns
pub mod Runs
mod Examples
