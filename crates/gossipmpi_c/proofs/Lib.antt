mod Words
pub mod Told
mod Shown
