pub mod AllHands
pub mod Lists
pub mod Weights
