-- Proofs that the joins keep the laws, and of tests by cases: nobody needs to read them.
pub mod Cases
pub mod Max
pub mod Flat
pub mod Pair
pub mod Between
