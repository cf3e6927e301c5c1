-- Counts and words in the bytes of an input.
pub mod CountedLaws
