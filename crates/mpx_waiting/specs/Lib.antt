pub mod ToldLines
pub mod Lines
