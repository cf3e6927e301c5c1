-- Lines, by cases.
pub mod LineLaws
-- The limits in the bytes of a file.
pub mod FileLaws
-- The text of a judging, and of a file.
pub mod PictureLaws
