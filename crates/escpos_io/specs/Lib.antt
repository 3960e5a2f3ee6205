pub mod Cause
pub mod Source
pub mod Incoming
pub mod Outgoing
pub mod Memory
pub mod Gather
pub mod Putting
pub mod Giving
