pub mod PlainText
pub mod Rows
