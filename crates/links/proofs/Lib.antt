mod Pairing
mod Turns
mod Filtering
mod Parting
pub mod Writing
mod Coming
mod Freeing
mod Dropping
pub mod Telling
mod Standing
mod Taking
pub mod Onces
mod Seeking
pub mod Keeping
pub mod Operating
pub mod Giving
pub mod Beginning
mod Promises
