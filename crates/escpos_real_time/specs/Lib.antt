pub mod RealTime
pub mod Scan
