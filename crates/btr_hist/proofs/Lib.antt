pub mod HistoryLemmas
pub mod RejectionLemmas
pub mod KernelLemmas
pub mod CellLemmas
pub mod LocalityLemmas
pub mod DistilLemmas
pub mod VersionLemmas
pub mod ReadsLemmas
pub mod AcceptedLemmas
pub mod RetireLemmas
pub mod OutputLemmas
pub mod RightLemmas
pub mod LandingLemmas
mod Steps
mod CrowdedWalk
mod Stays
mod PresentLemmas
mod Machine
mod WindowWalk
mod Bounds
mod Found
mod Differ
