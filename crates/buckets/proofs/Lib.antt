-- Each file has the name of the definitions in `specs` that its laws are about.
pub mod Chains
pub mod Halves
pub mod Hashes
