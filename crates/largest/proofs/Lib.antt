-- What follows from the definitions of `specs/`. No contract cites these files.
pub mod CountLaws
pub mod LargestLaws
pub mod LargestFound
pub mod LargestLoop
pub mod ObeyLaws
pub mod LargestPromise
pub mod LargestCases
