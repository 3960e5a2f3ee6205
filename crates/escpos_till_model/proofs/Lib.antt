pub mod EntryFacts
pub mod Accounts
pub mod HeardLemmas
pub mod GoesOn
pub mod Keeping
pub mod LinesKept
pub mod LateLemmas
pub mod WorldCalls
pub mod WorldStore
pub mod HostHears
pub mod WorldHears
pub mod WorldKeeps
pub mod WorldLearns
pub mod Worlds
mod RenewedWorlds
mod Again
mod WireEvents
mod Shown
mod DrivenDeeds
mod Driven
pub mod TillHappens
mod TillWorlds
mod CarriedCalls
mod Carrying
mod Widths
mod DriverDoes
mod Served
mod Queueing
mod Keying
mod OffLine
mod Rows
mod WireLines
mod CarryingDeeds
mod Confirming
