pub mod TryFold
pub mod Capped
pub mod Splits
pub mod Spelled
