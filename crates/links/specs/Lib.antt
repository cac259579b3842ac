pub mod Pairs
pub mod Entries
pub mod Table
pub mod Laws
