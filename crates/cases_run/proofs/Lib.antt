-- What the proofs of the program's functions take from the definitions of other crates. No contract cites these files.
pub mod PairLaws
