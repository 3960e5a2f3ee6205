mod Worked
pub mod EntryLemmas
pub mod KeyLemmas
mod KeyedLemmas
mod RenewLemmas
pub mod StateLemmas
pub mod CopyLemmas
pub mod DriverLemmas
pub mod BookLemmas
pub mod TryLemmas
pub mod MachineLemmas
pub mod LearningLemmas
