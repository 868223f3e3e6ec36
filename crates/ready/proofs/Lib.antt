pub mod Room
pub mod Refilled
pub mod Among
