pub mod Ranks
pub mod Standing
pub mod Evaluation
pub mod Going
pub mod Told
pub mod Transcripts
pub mod Reports
pub mod Ends
