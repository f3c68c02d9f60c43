-- What a reader of Check's contracts must believe.
pub mod Answers
pub mod Sheets
-- how its code goes about it
pub mod Inner
