pub mod Systems
pub mod Runs
pub mod Rest
