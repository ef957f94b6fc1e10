pub mod Moves
pub mod Senders
