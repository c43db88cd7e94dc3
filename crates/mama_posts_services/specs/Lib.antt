pub mod Bridge
pub mod Byes
pub mod Laying
pub mod Ports
pub mod Publisher
pub mod Service
pub mod Timers
