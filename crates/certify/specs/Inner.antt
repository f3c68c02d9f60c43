-- What Certify's functions promise one another: definitions that no entry point cites.
pub mod Ranking
pub mod Initial
pub mod Judging
