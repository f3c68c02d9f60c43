-- Laws of Strategy's run.
mod Fitting
mod Drafting
mod NextPair
mod Walking
mod Counting
mod Ending
