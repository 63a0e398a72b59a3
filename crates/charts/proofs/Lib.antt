-- The laws of the record, each file after those that it cites.
pub mod Answers
pub mod Cases
pub mod Held
mod Appending
