pub mod Arguments
pub mod ClapAnswers
pub mod TillArguments
pub mod ProbeArguments
pub mod Shells
