pub mod SeatLemmas
pub mod OpeningLemmas
pub mod WatchLemmas
pub mod NewLemmas
pub mod InformingLemmas
