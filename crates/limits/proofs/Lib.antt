-- What follows from the definitions of `specs/`. No contract cites these files.
pub mod MonitorLaws
pub mod AnswerLaws
pub mod QuestionLaws
pub mod SecondLaws
