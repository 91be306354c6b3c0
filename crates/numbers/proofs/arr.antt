pub mod Laws
mod Sized
