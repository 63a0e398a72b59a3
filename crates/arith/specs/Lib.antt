-- The charts' arithmetic.
pub mod Arith
