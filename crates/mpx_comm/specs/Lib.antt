pub mod Calls
pub mod Asking
pub mod Desks
pub mod Lines
pub mod Keeps
pub mod Comms
pub mod Forgetting
pub mod Given
