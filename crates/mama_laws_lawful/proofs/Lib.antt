pub mod Ended
pub mod Fins
pub mod Going
pub mod Lists
pub mod OtherStreams
pub mod QueueStreams
pub mod Rows
pub mod Silence
pub mod Slots
pub mod Steady
pub mod Steps
pub mod Tally
pub mod Timely
mod WorkedRows
