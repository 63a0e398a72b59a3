-- The laws of reading, of writing and of comparing.
pub mod InGroups
mod Rows
mod Alike
