pub mod Head
pub mod Answer
pub mod Held
