pub mod Holding
pub mod Starts
