-- Laws for callers.
pub mod Admitting
pub mod Refusing
pub mod Surveying
pub mod Expansions
pub mod RawSheets
mod Copies
