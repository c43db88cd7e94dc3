pub mod Listener
pub mod Table
pub mod Kept
