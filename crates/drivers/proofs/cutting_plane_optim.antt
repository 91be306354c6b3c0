mod Answers
mod Runs
mod Steps
