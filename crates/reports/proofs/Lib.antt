-- What the proofs of the report share, each file after those that it cites.
mod Heads
mod Values
mod Digits
mod Putting
mod Words
mod Limits
pub mod Marks
mod Charts
mod Examples
pub mod Answers
mod Telling
mod Evaluations
pub mod Longest
