pub mod Lists
pub mod Board
pub mod Reordering
pub mod Theory
pub mod Renaming
pub mod Kept
pub mod Outcomes
