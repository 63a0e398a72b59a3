-- What a flow file says, the report's text, and the report, in the order in which to read it.
pub mod Flow
pub mod Text
pub mod Report
pub mod Steps
pub mod TextSteps
