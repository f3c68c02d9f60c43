-- The function of the variable that Solve takes next; no entry point cites these.
pub mod Next
