pub mod BlankOrNot
pub mod Breaks
pub mod Parts
pub mod Betweens
pub mod WrappedLines
pub mod InRange
pub mod RowParts
mod Worked
pub mod CellsOfText
pub mod LinesOnPaper
pub mod SidesOfLines
pub mod OneWrapping
