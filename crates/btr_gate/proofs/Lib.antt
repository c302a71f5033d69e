pub mod NumberLemmas
pub mod PrefixLemmas
pub mod ShareLemmas
pub mod PassLemmas
mod Totals
mod Paths
mod RuleFacts
mod Places
mod Alone
mod Hands
mod TurnFacts
mod KeepsTickets
mod KeepsLooks
mod KeepsTurns
mod KeepsShares
mod KeepsEnds
mod Counted
mod Entered
