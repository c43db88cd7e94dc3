pub mod Client
pub mod Outlets
pub mod Queue
