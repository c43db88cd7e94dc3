pub mod Telling
pub mod InTwo
