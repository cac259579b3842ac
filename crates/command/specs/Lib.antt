pub mod Commands
pub mod Staying
pub mod Week
pub mod Excluded
