pub mod IdLemmas
pub mod PlanLemmas
pub mod FewLemmas
pub mod RoomLemmas
pub mod ImageLemmas
pub mod ApartLemmas
pub mod EachLemmas
pub mod NumberedLemmas
