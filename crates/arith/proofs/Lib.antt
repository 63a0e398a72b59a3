-- Laws of the arithmetic.
mod Extremes
mod Signs
pub mod Means
