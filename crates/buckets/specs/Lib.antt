-- Chains of members that fall into one bucket, what is in a member's number, and the hashes by which trees fall into buckets.
pub mod Chains
pub mod Halves
pub mod Hashes
