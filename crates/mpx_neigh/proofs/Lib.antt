pub mod Senders
pub mod Taking
pub mod Sources
pub mod Examples
