-- The laws of rule sets, and what the calls rest on.
pub mod Sets
pub mod Members
pub mod Names
pub mod Answers
mod Masks
mod Examples
