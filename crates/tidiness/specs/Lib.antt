-- What the functions of tidiness promise one another. A reader believes `is_tidy` and `first_fault` of crate `formula`
-- alone: the definitions here are proved to come to the same.
pub mod Faults
