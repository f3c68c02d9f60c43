-- The rows that are tidied; below `Inner`, what the steps of tidying do to rows, which no caller of an operation must believe.
pub mod Limits
pub mod Inner
