pub mod Noted
pub mod Watched
pub mod Missed
pub mod Placing
pub mod Adding
