-- What it means that values are finite, and some values by name.
pub mod Finite
pub mod Values
