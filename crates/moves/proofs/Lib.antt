-- What follows from the definitions of `specs/`. No contract cites these files.
pub mod NodeMoveLaws
pub mod LineMoveLaws
pub mod LineBackLaws
pub mod RunMoveLaws
pub mod WovenMoveLaws
pub mod FoundMoveLaws
pub mod AnswerLaws
pub mod LongRuleLaws
pub mod Moving
pub mod RoundLaws
pub mod MoveCases
