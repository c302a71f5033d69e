pub mod PlanLemmas
pub mod PartLemmas
pub mod SightLemmas
