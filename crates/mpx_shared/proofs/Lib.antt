pub mod Plans
pub mod Dying
pub mod LawfulPorts
pub mod Gossiping
pub mod Pruning
pub mod Answering
