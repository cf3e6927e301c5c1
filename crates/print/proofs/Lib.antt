-- `AddedLaws`: writing at a place of a lent output. `DecimalLaws`: decimal numbers, and how long they are.
pub mod AddedLaws
pub mod DecimalLaws
