pub mod Signed
pub mod Refusals
