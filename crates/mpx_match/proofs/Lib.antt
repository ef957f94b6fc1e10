pub mod Least
pub mod Alike
pub mod Below
pub mod Ends
pub mod Decisions
pub mod FirstFault
pub mod Examples
