pub mod Kinds
pub mod Codes
