pub mod Quiet
pub mod Due
pub mod Keeping
pub mod More
pub mod Values
pub mod Jobs
