-- Laws for callers, and the turns of the walks over the prefix.
pub mod Places
mod Walks
