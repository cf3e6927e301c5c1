-- What follows from the definitions of `specs/`. No contract cites these files.
pub mod TruthLaws
pub mod TestLaws
pub mod ReasonLaws
pub mod LimitsLaws
pub mod LimitsCases
