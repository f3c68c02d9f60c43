mod Children
mod Copying
mod Writing
mod Trying
mod SiftTurn
mod Deciding
pub mod Reliance
