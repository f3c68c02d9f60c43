pub mod Limits
pub mod Flat
pub mod Rows
mod Digits
mod Stores
pub mod Pasting
pub mod Sealing
pub mod Layouts
pub mod Formulas
pub mod Sealed
