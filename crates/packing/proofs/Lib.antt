pub mod Unpacking
pub mod Resumed
pub mod Ranges
pub mod Copied
pub mod Refused
pub mod Telling
