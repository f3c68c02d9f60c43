-- What rows are while they are tidied, and what the walks and rules over them do. Nothing that a caller of an operation must believe.
pub mod Segments
pub mod Walks
pub mod Entered
pub mod Known
pub mod Rules
pub mod Gather
