pub mod EntryLaws
pub mod Journal
pub mod Lane
