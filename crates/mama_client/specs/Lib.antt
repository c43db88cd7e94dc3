pub mod Standing
pub mod Client
pub mod Calls
pub mod Group
