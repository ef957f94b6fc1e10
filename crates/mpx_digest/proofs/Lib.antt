pub mod Kept
pub mod Steps
pub mod Bare
pub mod Reaching
pub mod Passing
pub mod Gaps
pub mod Saying
