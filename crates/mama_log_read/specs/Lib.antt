pub mod Logged
pub mod Unfit
pub mod Section
pub mod Part
pub mod Reading
