-- Laws of the charts' records, of adding and of evaluating.
pub mod Answers
pub mod Samples
pub mod Totalling
pub mod Held
pub mod Adding
pub mod Outcomes
mod Examples
