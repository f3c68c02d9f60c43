-- Laws for callers.
pub mod Laws
pub mod Cuts
mod Around
pub mod Source
mod Copies
mod RunTurns
pub mod Raws
pub mod Sited
pub mod Plans
