pub mod Rows
pub mod Entries
pub mod Arranging
pub mod MergeTurn
pub mod Merge
pub mod Halves
pub mod Filling
