-- Laws of the relevant subtree, and the turns of this crate's loops.
pub mod Growth
pub mod Descent
pub mod TurnSubtree
mod TurnCuts
