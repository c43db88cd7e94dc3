pub mod Lists
pub mod Live
pub mod OneKind
pub mod Ties
pub mod Reaction
pub mod Puts
pub mod Next
pub mod TableLaws
