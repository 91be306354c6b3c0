mod Turns
mod Puts
