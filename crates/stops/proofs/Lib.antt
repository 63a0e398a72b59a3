-- The laws of stops.
pub mod Rising
pub mod Cuts
