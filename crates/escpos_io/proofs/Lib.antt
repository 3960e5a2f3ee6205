pub mod Carrying
pub mod PieceLists
pub mod Giving
pub mod Digits
