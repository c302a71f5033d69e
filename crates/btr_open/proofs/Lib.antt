-- lists
pub mod ListLemmas
-- what the calls between two states of a device leave
pub mod Synced
pub mod OnlyReading
pub mod OpenCauses
-- what the body of an extent has
pub mod ContentLemmas
mod BodyParts
pub mod Formats
pub mod UniqueLemmas
-- why an entry may not follow
pub mod OutlineLemmas
-- the pages below a checkpoint
pub mod BelowLemmas
mod TreesBelow
mod MakingBelow
mod FetchingBelow
-- the root of an entry, and its tree
pub mod RootLemmas
mod TreeLemmas
-- what a device that holds a history has
pub mod HeldPages
pub mod HeldRolls
pub mod HeldRoots
mod HeldTrees
pub mod HeldLemmas
-- the checkpoint from which a log is read
mod StartContent
mod StartRoots
mod StartTrees
mod StartLoad
mod StartExtent
mod StartLemmas
-- one extent
pub mod NextRollLemmas
mod LoadingLemmas
pub mod ReadingLemmas
-- the log
pub mod WalkLemmas
mod NextLemmas
mod WholeLemmas
mod LogWalkLemmas
mod RuleLemmas
pub mod FirstReading
-- what an opening returns, and the laws
pub mod UnbrokenLemmas
pub mod Sound
mod Opened
-- a sealed store as a shelf
mod ShelfLemmas
mod ShelfHeld
mod SealedLemmas
