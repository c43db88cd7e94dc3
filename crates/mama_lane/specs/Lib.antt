pub mod Rule
pub mod Steps
pub mod Taker
pub mod Values
