pub mod Standing
pub mod Fronts
pub mod Steps
pub mod Ways
pub mod Ahead
pub mod Ends
pub mod Reports
mod Spaced
pub mod Checked
pub mod Passing
pub mod Tells
pub mod Going
mod EvaluationExamples
