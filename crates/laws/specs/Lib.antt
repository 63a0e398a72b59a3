-- Definitions that more than one part cites.
pub mod Bools
pub mod Bits
pub mod Refusals
pub mod Lists
pub mod Front
