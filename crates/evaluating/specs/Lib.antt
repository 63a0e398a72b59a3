-- What evaluating and the sigma figures compute and answer, in the order in which to read it.
pub mod Asked
pub mod Factors
pub mod Series
pub mod Limits
pub mod Evaluating
pub mod Centres
pub mod Sigma
pub mod Steps
