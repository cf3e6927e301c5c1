-- What follows from the definitions of `specs/`. No contract cites these files.
pub mod StationsLaws
pub mod StationsDemand
pub mod StationsCases
