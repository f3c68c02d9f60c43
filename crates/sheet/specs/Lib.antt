-- Documents 01 and 02 on bytes, in their order.
pub mod Format
pub mod Sheet
pub mod Refusals
pub mod Check
pub mod Operations
pub mod Calls
pub mod Starred
-- N1, N2, N6, N9, N10, N11, N12, N13, N14
pub mod Qdimacs
pub mod Texts
pub mod Steps
pub mod Outer
pub mod Force
pub mod Guards
pub mod Conversion
pub mod Trace
pub mod Resume
pub mod Order
-- Strategy 1
pub mod Strategy
-- Certificates
pub mod Certificates
pub mod Clauses
-- Decide
pub mod Decide
pub mod Split
pub mod Join
-- what is relied on
pub mod Limits
pub mod Reliance
pub mod Results
pub mod Truthful
