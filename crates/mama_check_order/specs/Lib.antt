pub mod Numbered
pub mod Order
pub mod Search
pub mod Turns
pub mod Taken
pub mod Step
