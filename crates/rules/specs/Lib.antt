-- What a mark means, in the order in which to read it.
pub mod Lines
pub mod Tests
pub mod Finite
pub mod Terms
pub mod Marking
pub mod Columns
pub mod Codes
pub mod Cuts
