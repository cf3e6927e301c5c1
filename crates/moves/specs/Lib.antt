pub mod Moves
pub mod Moved
