pub mod Numbers
pub mod Needs
pub mod Clients
pub mod Standing
pub mod Lanes
pub mod Rounds
