pub mod Members
pub mod Bounded
pub mod Had
pub mod Ranks
pub mod Works
