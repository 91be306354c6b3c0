pub mod Words
pub mod Case
pub mod Tally
pub mod Rooms
pub mod Signed
pub mod Pushes
pub mod Inputs
pub mod State
