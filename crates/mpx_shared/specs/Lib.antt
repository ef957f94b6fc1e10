pub mod LawfulPorts
pub mod Tickets
pub mod Gossip
pub mod Turns
pub mod Laws
