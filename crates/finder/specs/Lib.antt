pub mod Rows
pub mod Kept
pub mod Answers
