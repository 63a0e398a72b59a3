-- What the proofs of the root share, each file after those that it cites.
pub mod Squares
pub mod Turns
pub mod Nearest
pub mod Patterns
pub mod Format
pub mod Value
pub mod Answers
pub mod Unique
pub mod Scaled
pub mod Form
pub mod Halving
pub mod Function
pub mod Steps
pub mod Examples
