pub mod Quiet
pub mod TornParts
mod PrinterStatusLemmas
mod Watching
