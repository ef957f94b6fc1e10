pub mod Plans
pub mod ToldCalls
pub mod Rest
pub mod Work
pub mod ThreadRuns
pub mod Gates
