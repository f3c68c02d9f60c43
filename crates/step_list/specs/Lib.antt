-- What a reader of the contracts must believe.
pub mod Numbers
-- how the code goes about it
pub mod Inner
