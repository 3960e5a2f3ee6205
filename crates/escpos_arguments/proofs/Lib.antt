pub mod TaskValues
pub mod TaskWords
pub mod TillWords
pub mod ProbeWords
pub mod TillValues
