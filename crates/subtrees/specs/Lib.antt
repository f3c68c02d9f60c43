-- The subtrees of a matrix by their rows, the table of their ends, and the one that an expansion takes place in.
pub mod Subtrees
pub mod Ends
pub mod Parts
pub mod Cuts
