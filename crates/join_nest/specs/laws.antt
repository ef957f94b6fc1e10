-- Proofs that the joins made of joins keep the laws: nobody needs to read them.
pub mod Optional
pub mod Entries
pub mod Keyed
pub mod Cut
pub mod Trunc
pub mod Chosen
pub mod WholeParts
pub mod Between
pub mod Lift
