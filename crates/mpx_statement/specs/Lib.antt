pub mod Lookups
pub mod Statements
