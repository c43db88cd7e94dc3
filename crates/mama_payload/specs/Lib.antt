pub mod Stop
pub mod Giving
pub mod Spelling
pub mod Reading
pub mod Laws
pub mod Spelled
