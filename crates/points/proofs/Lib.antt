-- Laws of the columns and of plotting.
pub mod Filled
pub mod Plotting
