-- Derivations on words: codes that are kept, ranks of variables, and when a step is derived.
pub mod Codes
pub mod Ranks
pub mod Steps
