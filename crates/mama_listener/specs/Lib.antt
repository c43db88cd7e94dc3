pub mod Passed
pub mod Plan
pub mod PlanListener
