pub mod FactSets
pub mod Written
