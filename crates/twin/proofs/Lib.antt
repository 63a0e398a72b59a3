-- The laws of the C boundary.
mod FromBytes
mod Refusing
mod Marking
pub mod Packing
mod Examples
