pub mod Codes
pub mod Ranks
pub mod Covering
pub mod Resolvents
pub mod Steps
