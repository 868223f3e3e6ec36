pub mod Bridge
pub mod Promises
