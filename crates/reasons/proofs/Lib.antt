-- What follows from the definitions of `specs/`. No contract cites these files.
pub mod ReasonLaws
pub mod RegisterLaws
pub mod IndexLaws
pub mod SecondLaws
