-- Laws of the set in words for callers; the turns of marking, of the walks over the prefix, and of the growing set.
pub mod Answers
mod Marks
mod Within
mod Blocks
mod Growing
