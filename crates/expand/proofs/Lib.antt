mod Innermost
mod Deciding
