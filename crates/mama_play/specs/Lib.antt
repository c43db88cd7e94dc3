pub mod Kinds
pub mod Adding
