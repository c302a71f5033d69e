pub mod BookLemmas
mod StateLemmas
mod PassLemmas
mod NoteLemmas
mod SeatLemmas
-- for those who share a group among threads
pub mod CrossingLemmas
pub mod ShareLemmas
pub mod ServeLemmas
-- for those who use the groups of all streams
pub mod SetLemmas
pub mod LaneLemmas
mod LaneStepLemmas
-- for those who use lanes that share groups
pub mod LaneSeatLemmas
mod ClosingLemmas
