pub mod Changed
pub mod Tables
mod Fits
mod Spans
mod Copied
mod Lent
pub mod Splice
