pub mod Answered
pub mod Carriers
pub mod Moves
pub mod Places
pub mod Shown
pub mod Waits
