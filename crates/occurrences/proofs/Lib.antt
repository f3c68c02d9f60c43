-- Laws of chains, and the turns of the loops that fill the tables.
pub mod Hits
pub mod Chains
mod TableTurns
