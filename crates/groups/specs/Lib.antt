-- What a number in groups of seven is.
pub mod Groups
