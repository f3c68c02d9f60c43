pub mod Deciding
pub mod Holding
pub mod Fetching
pub mod Stepping
pub mod Arriving
pub mod Turning
pub mod Answering
pub mod Reliance
