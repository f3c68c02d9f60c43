-- Where a part stands.
pub mod Places
