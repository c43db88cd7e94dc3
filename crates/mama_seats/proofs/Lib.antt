pub mod StandLemmas
pub mod ReadingLemmas
pub mod MomentRows
pub mod SenderLemmas
pub mod PastLemmas
pub mod UntoldLemmas
pub mod KeptLemmas
pub mod TurnLemmas
