-- `MoverLaws`: the answers of the moves, and words moved one by one.
pub mod MoverLaws
