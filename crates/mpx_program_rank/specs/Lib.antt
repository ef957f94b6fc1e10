pub mod Gives
pub mod Lengths
pub mod Waiting
