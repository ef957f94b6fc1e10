pub mod Alike
pub mod FaultTexts
pub mod Faults
pub mod Questions
pub mod Verdicts
