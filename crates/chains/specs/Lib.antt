pub mod Packing
pub mod Tables
pub mod Chains
pub mod Laws
pub mod Walks
