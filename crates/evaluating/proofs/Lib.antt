-- The laws of evaluating, each file after those that it cites.
pub mod Answers
pub mod ByKind
pub mod SeriesPoints
mod Counting
pub mod Measures
pub mod Outcomes
mod Figures
pub mod Examples
