pub mod Dispatcher
pub mod Kept
pub mod Serving
