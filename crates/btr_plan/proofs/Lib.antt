pub mod SightLemmas
pub mod PlanLemmas
pub mod ComputedLemmas
