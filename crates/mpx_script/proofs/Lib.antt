pub mod Splits
pub mod Entries
pub mod Parting
pub mod Refusals
pub mod Accepted
pub mod Added
pub mod Names
pub mod Settling
pub mod Progress
mod Examples
pub mod Counts
pub mod Given
