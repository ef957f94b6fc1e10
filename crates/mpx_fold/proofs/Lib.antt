pub mod Contributions
pub mod Folding
pub mod Places
pub mod Giving
