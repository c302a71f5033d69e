pub mod StateLemmas
pub mod JobLemmas
pub mod DoesLemmas
pub mod TurnLemmas
pub mod RunLemmas
pub mod InTurnLemmas
pub mod PlainStoreLemmas
mod CrossingLemmas
