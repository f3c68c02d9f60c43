pub mod Turning
pub mod Walking
pub mod Parts
pub mod Arrays
pub mod Whole
pub mod Numbering
