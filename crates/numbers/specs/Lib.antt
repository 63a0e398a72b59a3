-- The numbers of answers.
pub mod Numbers
