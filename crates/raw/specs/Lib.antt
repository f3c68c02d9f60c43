-- The raw sheets of Settle and Expand.
pub mod Formulas
pub mod Expansions
