mod Waiting
mod Reporting
pub mod Less
pub mod Pieces
