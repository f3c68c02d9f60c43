-- Each file has the name of the function, or of the definitions in `specs`, that its laws are about.
pub mod InPlace
pub mod Members
pub mod Conclude
pub mod Flat
pub mod Combine
pub mod TidyEach
pub mod Packed
pub mod TidyInPlace
pub mod TidyChecked
pub mod Raw
