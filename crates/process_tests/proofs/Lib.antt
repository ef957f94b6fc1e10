pub mod NewHomes
pub mod NewPorts
pub mod Values
