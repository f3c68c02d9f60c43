-- Certify for callers in C.
pub mod Packed
pub mod Unpacked
pub mod Told
