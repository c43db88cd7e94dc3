pub mod Back
pub mod Kinds
pub mod Closed
pub mod InKinds
pub mod Apart
pub mod Made
