-- What follows from the definitions of `specs/`. No contract cites these files.
pub mod UnionLaws
pub mod UnionCases
