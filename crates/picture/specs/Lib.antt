pub mod File
pub mod Lines
pub mod Picture
