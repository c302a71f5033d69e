pub mod TraceLemmas
pub mod CommitLemmas
pub mod SessionLemmas
mod TurnLemmas
mod TravelLemmas
mod StoreLemmas
pub mod LandLemmas
pub mod CrossingLemmas
