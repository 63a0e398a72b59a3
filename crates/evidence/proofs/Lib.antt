-- The laws of evidence.
mod Behind
mod Spans
pub mod Shown
