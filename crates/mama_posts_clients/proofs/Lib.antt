pub mod ClientLemmas
pub mod OutletLemmas
pub mod QueueLemmas
pub mod ReturnLemmas
