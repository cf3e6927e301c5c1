pub mod FactSetLaws
pub mod GroupLaws
pub mod OverLaws
