-- What the bytes at the C boundary mean, and what its functions answer, in the order in which to read it.
pub mod Bytes
pub mod Answers
pub mod Steps
