pub mod Each
pub mod Written
pub mod Fitting
pub mod Weights
pub mod Accepted
