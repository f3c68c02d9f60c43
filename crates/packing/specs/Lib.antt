-- Answers as numbers, for callers in C.
pub mod Packed
pub mod Panel
pub mod Order
pub mod Copies
pub mod Unpacked
pub mod Returned
pub mod Told
