pub mod Ranking
pub mod Settling
pub mod Steps
pub mod Judging
