pub mod Counting
pub mod Pairs
pub mod Graphs
pub mod Fine
pub mod Adjacent
pub mod Made
pub mod Examples
