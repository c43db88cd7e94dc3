pub mod Batches
pub mod Edges
pub mod Kept
pub mod Lists
pub mod Takers
