pub mod Told
pub mod Plain
pub mod Word
pub mod Watched
pub mod Grouped
pub mod Laws
