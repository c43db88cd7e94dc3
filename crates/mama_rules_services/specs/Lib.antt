pub mod Life
pub mod Place
pub mod Ports
pub mod Bridge
pub mod Timers
