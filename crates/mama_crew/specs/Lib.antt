pub mod Hall
pub mod Client
pub mod Seat
pub mod Crew
pub mod New
pub mod Informed
pub mod Placed
pub mod Journals
