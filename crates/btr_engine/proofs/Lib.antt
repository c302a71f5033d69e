pub mod BodyLemmas
pub mod NeedLemmas
pub mod EngineLemmas
mod ExtentBytes
mod StreamedLemmas
mod FirstNode
mod Streams
pub mod HoldsLemmas
pub mod RaiseLemmas
pub mod Stepping
mod Appending
mod PendingLemmas
mod Durable
mod Settling
pub mod TravelLemmas
mod RollBody
mod Marking
pub mod Written
pub mod StoredLemmas
pub mod RootsLemmas
pub mod CrossingLemmas
