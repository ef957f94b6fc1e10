pub mod Standing
pub mod Answering
