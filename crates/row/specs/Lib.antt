pub mod Columns
pub mod Lookup
pub mod Meaning
pub mod Moves
pub mod Telling
pub mod Laws
pub mod Theory
