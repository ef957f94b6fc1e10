pub mod Later
pub mod Turns
pub mod Requests
pub mod Any
pub mod Harvested
