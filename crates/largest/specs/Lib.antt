pub mod Notes
pub mod Largest
pub mod Found
