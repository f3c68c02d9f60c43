-- What a reader of the C interface's contracts must believe.
pub mod Returned
