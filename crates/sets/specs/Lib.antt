-- What a rule set is, and what its calls answer.
pub mod Sets
pub mod Calls
