mod Turns
mod Answers
