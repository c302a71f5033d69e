mod RejectionBounds
pub mod BoardTrees
pub mod BoardStreamLemmas
pub mod NumberingLemmas
pub mod RollingLemmas
pub mod RollFits
pub mod OutlineLemmas
mod RolledOutline
mod ReaderLists
mod Holding
pub mod StreamsLemmas
mod Crowded
pub mod BoardCommits
pub mod BoardNext
mod BoardRead
mod BoardReads
pub mod RestoringLemmas
mod Questions
pub mod CrossingLemmas
