pub mod Stations
pub mod StationsPromise
