-- What the operations on one variable and Solve's steps share; no entry point cites these.
pub mod Steps
pub mod Admission
pub mod Survey
pub mod Expanding
