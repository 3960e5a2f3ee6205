pub mod Lengths
pub mod Table
pub mod Finding
pub mod Names
pub mod Tokens
pub mod Laws
pub mod Reading
