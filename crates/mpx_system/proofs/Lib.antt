pub mod Posting
pub mod Coupling
pub mod Leading
pub mod Happenings
pub mod Results
pub mod Settled
pub mod Rounds
pub mod Possible
