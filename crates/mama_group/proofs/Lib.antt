pub mod Told
pub mod Counting
pub mod Changing
pub mod Placing
pub mod Keeping
pub mod Adding
