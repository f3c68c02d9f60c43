-- The signs of each variable's literals, and the value that they give.
pub mod Table
pub mod Value
