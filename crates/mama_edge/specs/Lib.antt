pub mod Count
pub mod Told
pub mod Memory
pub mod Decimal
pub mod Quoted
pub mod Unquoting
