pub mod Fronts
pub mod Near
pub mod Raising
