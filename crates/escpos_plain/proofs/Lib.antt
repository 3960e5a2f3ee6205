pub mod AllCells
pub mod Strings
pub mod Worked
