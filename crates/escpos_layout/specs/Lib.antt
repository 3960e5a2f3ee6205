pub mod Columns
pub mod Wrapping
pub mod Layouts
pub mod Writing
pub mod Begun
pub mod OnPaper
pub mod Sides
pub mod Wrapped
