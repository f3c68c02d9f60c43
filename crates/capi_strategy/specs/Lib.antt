-- What a reader of these contracts for C must believe.
pub mod Claims
pub mod Returned
pub mod Told
pub mod Strategies
