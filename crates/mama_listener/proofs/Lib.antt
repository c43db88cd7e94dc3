pub mod Plans
pub mod FewLemmas
