pub mod Followed
pub mod Passes
pub mod Needs
pub mod Ranks
pub mod Dealt
