pub mod Terms
pub mod Gathering
pub mod Demands
pub mod Spreading
pub mod Peaks
pub mod Trying
pub mod Phases
pub mod Searching
