pub mod Numbers
pub mod States
pub mod Stations
