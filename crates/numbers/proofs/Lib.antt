-- `NoteLaws`: words written at the start of lent memory. `StateLaws`: a machine's words. `FourLaws`: a run of four stations.
pub mod NoteLaws
pub mod StateLaws
pub mod FourLaws
