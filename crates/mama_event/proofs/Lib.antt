pub mod FidLemmas
pub mod WorkedRows
pub mod WireLemmas
