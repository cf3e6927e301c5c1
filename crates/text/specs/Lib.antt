pub mod Tokens
pub mod Places
pub mod Building
pub mod Stacks
pub mod Progress
pub mod Answers
