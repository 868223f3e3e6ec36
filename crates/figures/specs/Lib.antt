pub mod Loads
pub mod Reaches
pub mod Grouped
pub mod Choices
pub mod Ceilings
pub mod Worsts
pub mod Tries
pub mod Owns
