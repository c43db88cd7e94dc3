pub mod Left
pub mod Answered
