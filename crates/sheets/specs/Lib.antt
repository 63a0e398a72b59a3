-- What a mark sheet is, what any bytes say, and what checker and writer answer, in the order in which to read it.
pub mod Sheet
pub mod Said
pub mod Answers
pub mod Steps
