mod Widened
mod Counted
mod Answered
