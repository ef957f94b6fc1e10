-- Laws that contracts hand on as facts of a type, with their proofs: nobody needs to read them.
pub mod Gone
pub mod Bounded
