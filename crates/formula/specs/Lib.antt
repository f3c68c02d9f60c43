-- Documents 01 and 02 without bytes, in their order.
pub mod Tree
pub mod Truth
pub mod Tidy
pub mod Settle
pub mod Expand
pub mod Solve
pub mod Trial
-- N6, N8, N9, N10, N12, N13, N14
pub mod Outer
pub mod Reduce
pub mod Force
pub mod Guards
pub mod Trace
pub mod Resume
pub mod Order
-- strategies
pub mod Strategy
pub mod Claim
pub mod StrategyMatrix
-- certificates of search solvers, and clauses for them
pub mod Certificates
pub mod Clausal
-- the search beside Solve, and its work spread
pub mod Decide
pub mod Join
-- what is relied on
pub mod Right
-- how code goes about it
pub mod Inner
