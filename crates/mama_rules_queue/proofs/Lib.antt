pub mod QueueRows
