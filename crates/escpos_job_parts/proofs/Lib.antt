pub mod DigitPairs
pub mod DigitsKept
pub mod CheckDigits
pub mod RealTimeNotes
pub mod Successes
