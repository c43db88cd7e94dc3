pub mod Seat
pub mod Crew
pub mod Back
pub mod Opening
pub mod Closing
pub mod New
