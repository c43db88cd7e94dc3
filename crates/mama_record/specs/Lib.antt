pub mod RunData
pub mod RunView
pub mod LogText
pub mod SectionText
pub mod Equality
pub mod EqualityLaws
