pub mod Neighbourhoods
pub mod Cursors
