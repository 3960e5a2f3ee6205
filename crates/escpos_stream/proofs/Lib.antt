pub mod Keeping
pub mod Opening
pub mod Stopping
