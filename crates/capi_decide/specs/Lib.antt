-- Decide, Join and Split for callers in C.
pub mod Packed
pub mod Returned
pub mod Unpacked
pub mod Told
