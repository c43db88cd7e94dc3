pub mod Client
pub mod Setting
pub mod World
pub mod Stage
pub mod Sections
pub mod Told
pub mod Round
