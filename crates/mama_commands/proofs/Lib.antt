pub mod EndLemmas
pub mod WordsLemmas
