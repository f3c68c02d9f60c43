pub mod Tables
pub mod Filling
pub mod Rows
pub mod Values
pub mod Judging
pub mod Answering
