mod Packing
pub mod Nodes
mod Unhooking
mod Pushing
pub mod Puts
mod Operating
pub mod Framing
pub mod Meeting
pub mod Walking
pub mod Reading
pub mod Clearing
