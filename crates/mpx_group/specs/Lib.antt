pub mod Group
pub mod Triplet
pub mod Choice
pub mod Picks
pub mod Translation
