-- Laws for callers, and the turns of the loops.
pub mod Tidiness
mod Faults
