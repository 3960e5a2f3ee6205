pub mod Links
pub mod Send
pub mod PrinterStatus
pub mod Broken
pub mod Watched
pub mod WatchSteps
