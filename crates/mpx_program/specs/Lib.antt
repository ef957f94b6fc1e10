pub mod Status
pub mod Strict
pub mod Explained
pub mod Jobs
pub mod Answers
pub mod Showing
