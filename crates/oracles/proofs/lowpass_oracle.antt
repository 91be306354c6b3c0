pub mod Steps
pub mod Answers
