-- What follows from the definitions of `specs/`. No contract cites these files.
pub mod TypedLaws
pub mod SpellLaws
pub mod ReadingLaws
pub mod JumpLaws
pub mod NumeralLaws
pub mod StopLaws
pub mod FirstLaws
pub mod ScanLaws
pub mod StuckLaws
pub mod RangeLaws
pub mod NodeLaws
pub mod MentionLaws
pub mod TableLaws
pub mod TextLaws
pub mod FormLaws
pub mod TextCompute
pub mod TextCases
