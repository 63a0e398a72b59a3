-- The law of numbered answers: number and value fix the answer.
pub mod Numbers
