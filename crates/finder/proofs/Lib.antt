-- `FlagLaws`: the flags. `RowLaws`: the notes as they are kept. `SearchLaws`: the search. `FoundLaws`: what is found, asked and written.
pub mod FlagLaws
pub mod RowLaws
pub mod SearchLaws
pub mod FoundLaws
