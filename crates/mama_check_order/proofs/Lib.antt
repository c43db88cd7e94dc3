pub mod Numbered
pub mod Orders
pub mod Searches
pub mod Stops
pub mod LaneWalk
pub mod SenderWalk
