pub mod Reports
pub mod Founded
pub mod Left
pub mod Texts
