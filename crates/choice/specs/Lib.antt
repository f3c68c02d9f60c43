-- Which variable Solve takes next.
pub mod Settling
pub mod Expanding
