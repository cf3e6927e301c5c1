-- What the proofs of the functions cite. No contract cites these files.
pub mod LastLaws
pub mod MarkLaws
pub mod NodeLaws
pub mod StandLaws
pub mod BegunLaws
pub mod ExpectedLaws
pub mod AnswerLaws
pub mod CompiledCases
