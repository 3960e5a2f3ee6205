pub mod StateLines
pub mod LinkLines
pub mod Outcomes
pub mod Telling
pub mod Rounds
pub mod Tasks
pub mod RawTasks
mod Renewals
pub mod Contents
mod RefusalLines
