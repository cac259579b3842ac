pub mod Staying
pub mod Examples
