-- What numbers say about truth.
mod Telling
