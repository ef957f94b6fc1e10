pub mod NameOrder
pub mod Keys
