-- The turns of the loops.
mod Mixing
mod Comparing
mod Members
mod Gathering
