-- Laws of the choice and of the room for the function.
mod Choosing
