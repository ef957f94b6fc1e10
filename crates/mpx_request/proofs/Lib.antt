pub mod Steps
pub mod Many
pub mod Turns
pub mod Harvesting
pub mod Any
mod Picks
