pub mod Serving
pub mod Entries
pub mod Turning
pub mod Grouping
pub mod Opening
pub mod Gathered
pub mod GatheredSeats
pub mod NewSeats
