pub mod WordLemmas
pub mod Refusals
pub mod Rows
pub mod Commands
