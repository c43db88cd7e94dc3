pub mod KeyedLists
pub mod DistinctKeys
pub mod Places
pub mod Merging
pub mod Applying
