pub mod Gathered
pub mod Done
