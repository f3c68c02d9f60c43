-- How the code of Clauses goes about it.
pub mod Inner
