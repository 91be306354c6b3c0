pub mod Signs
mod Filling
