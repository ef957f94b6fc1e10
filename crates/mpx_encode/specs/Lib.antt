pub mod Room
pub mod Entries
pub mod Keeping
