-- Each file has the name of the function, or of the definitions in `specs`, that its laws are about.
pub mod Segments
pub mod Walks
pub mod Hop
pub mod Told
pub mod Notes
pub mod Mixes
pub mod Grouped
pub mod Find
pub mod Judge
pub mod Entered
pub mod Join
pub mod Gather
