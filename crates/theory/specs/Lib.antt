pub mod Counting
pub mod Plans
pub mod Windows
pub mod Runs
pub mod Theorems
pub mod Samples
