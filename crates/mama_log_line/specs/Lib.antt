pub mod Names
pub mod Head
pub mod Entering
pub mod Word
pub mod Journal
pub mod Calls
pub mod Lists
