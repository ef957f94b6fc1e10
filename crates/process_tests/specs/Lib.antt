pub mod Fresh
pub mod Homes
pub mod Answers
