pub mod LawfulPlans
pub mod BoardRuns
pub mod OnTime
pub mod InTime
