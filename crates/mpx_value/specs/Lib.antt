pub mod Children
pub mod Colours
pub mod Values
pub mod Histories
