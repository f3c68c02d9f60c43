-- Rows of a sheet by their number, and the run-time form of a format.
pub mod Formats
pub mod Layouts
pub mod Formulas
pub mod Tables
pub mod Refusals
