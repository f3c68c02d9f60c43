-- How Split goes about it: nothing here has to be believed.
pub mod Inner
