-- Rows copied with a table that says what each variable's literals become.
pub mod Changes
pub mod Output
