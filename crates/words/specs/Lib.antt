-- The words of a text, and what they are (N1).
pub mod Words
pub mod Numbers
pub mod Tokens
pub mod Literals
