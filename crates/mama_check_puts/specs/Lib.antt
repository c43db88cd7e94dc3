pub mod Puts
pub mod Dealing
pub mod Bridge
pub mod Sender
pub mod Client
