pub mod Address
pub mod PrinterLinks
pub mod Waits
