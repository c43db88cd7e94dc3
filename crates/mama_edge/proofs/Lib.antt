pub mod ToldLaws
pub mod DecimalLaws
pub mod QuotedLaws
