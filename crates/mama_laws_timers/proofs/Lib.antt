pub mod Fins
pub mod QueueStreams
pub mod Timely
