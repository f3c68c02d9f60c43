-- The turns of the loops, and what is written.
mod Linking
mod Drafting
mod Written
mod Deciding
mod Sheets
pub mod Telling
