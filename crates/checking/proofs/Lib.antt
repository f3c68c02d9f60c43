pub mod CheckedSheets
pub mod Debt
pub mod Bound
mod Sizes
mod Tests
mod RowTests
mod Whole
