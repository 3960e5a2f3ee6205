pub mod CodeTables
pub mod Index
pub mod Places
pub mod CharacterSets
pub mod LowBytes
pub mod HighBytes
pub mod LowestBytes
pub mod FirstAnswers
pub mod NewChoices
pub mod SoFar
pub mod NextChars
pub mod PlainWriting
pub mod ReadCommands
pub mod Standing
pub mod TextLaws
mod Worked
pub mod Printable
