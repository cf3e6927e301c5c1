-- What the proofs of the functions cite. No contract cites these files.
pub mod DigitLaws
pub mod LetterLaws
pub mod WordLaws
pub mod OverLaws
pub mod TurnLaws
pub mod InRangeLaws
pub mod BuildLaws
pub mod StackLaws
pub mod HoldLaws
pub mod UnwindLaws
pub mod WaitLaws
pub mod ProgressLaws
pub mod WritingLaws
pub mod FormLaws
pub mod AnswerLaws
