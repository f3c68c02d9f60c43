pub mod Words
mod ByteTurns
pub mod Digits
mod Names
pub mod Classes
mod Tokens
pub mod Signed
pub mod Values
