-- Sets of numbers in words.
pub mod Digits
pub mod Members
