-- The record of a chart and what its calls answer.
pub mod Records
