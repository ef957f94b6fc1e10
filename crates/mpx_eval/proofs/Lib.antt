pub mod Contexts
pub mod Tables
pub mod Trying
pub mod Outcomes
pub mod Gathered
pub mod Moving
pub mod Carried
pub mod Going
pub mod Reporting
pub mod Waits
mod Complaining
mod Unhearing
