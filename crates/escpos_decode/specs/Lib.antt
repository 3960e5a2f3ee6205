pub mod OneParameter
pub mod State
pub mod Push
pub mod Reading
pub mod Stream
