mod BlamedWords
pub mod FirstCalls
pub mod FoundEnds
pub mod RefusedTexts
pub mod Summing
pub mod Telling
