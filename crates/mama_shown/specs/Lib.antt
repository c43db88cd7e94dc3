pub mod Images
pub mod Seat
pub mod Turn
pub mod Crew
pub mod New
pub mod Last
