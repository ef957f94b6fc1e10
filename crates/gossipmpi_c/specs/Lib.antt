pub mod Answers
pub mod Explained
pub mod Options
pub mod Runs
