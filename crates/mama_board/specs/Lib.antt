pub mod Changes
pub mod Images
pub mod Rows
pub mod Rule
pub mod Values
