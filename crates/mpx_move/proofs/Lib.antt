pub mod Places
pub mod Senders
