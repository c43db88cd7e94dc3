pub mod Following
pub mod Clients
pub mod Queues
pub mod Publishers
pub mod SentOut
