pub mod Beyond
pub mod Keep
pub mod Digest
pub mod Reach
