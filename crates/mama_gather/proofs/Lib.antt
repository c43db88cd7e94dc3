pub mod Lists
pub mod Placing
pub mod LaneEnds
pub mod Parting
pub mod Putting
pub mod Imaging
