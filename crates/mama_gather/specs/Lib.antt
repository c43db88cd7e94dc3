pub mod Edge
pub mod Left
pub mod Places
