pub mod Members
pub mod Places
pub mod Strides
pub mod Choices
