pub mod Byes
pub mod Table
pub mod Laws
