-- The laws of numbers in groups of seven, and what the two loops rest on.
pub mod Strings
pub mod Shortest
pub mod Numbers
pub mod Onward
pub mod Answers
mod ReadLoop
mod WriteLoop
mod Examples
