-- The laws of finite values, of NaNs, of operations that give none, of those that keep what is not finite, and of the largest value.
pub mod AllFinite
pub mod Nan
pub mod Operations
pub mod Infinite
pub mod Largest
