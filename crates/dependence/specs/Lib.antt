-- The variables that depend on a universal variable one block out.
pub mod Marks
pub mod Blocks
pub mod Dependents
