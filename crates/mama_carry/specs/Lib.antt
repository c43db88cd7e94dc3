pub mod Brought
pub mod Fresh
