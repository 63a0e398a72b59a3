-- For each public call: any two results that its promise allows for the same inputs coincide. And 01's table, proved as one; that what 02
-- adds, left out, is 01; and R-5's two modes.
pub mod Coincide
mod Numbers
mod Floats
mod Groups
mod Root
mod Arith
pub mod Points
mod Attributes
mod Sets
mod Stops
mod Rules
mod Histories
mod Evidence
mod Charts
mod Evaluating
mod Sheets
mod Reports
mod Twin
mod Table
pub mod Base
pub mod Widths
