pub mod Deal
pub mod Hand
pub mod Rule
pub mod Steps
pub mod Values
