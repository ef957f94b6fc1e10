pub mod Orders
pub mod Edges
pub mod Topologies
pub mod Ends
pub mod Births
pub mod Tallies
