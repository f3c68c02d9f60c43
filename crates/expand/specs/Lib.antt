-- Expand's, Execute's and Quote's contracts need no definition of their own.
pub mod Inner
