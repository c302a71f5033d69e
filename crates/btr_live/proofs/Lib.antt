-- the points that wait
pub mod WaitingLemmas
-- what lines ask for
pub mod StreamLemmas
mod FeedLines
mod OutputLines
mod DeleteLines
-- the turns of a line
pub mod HolderLemmas
mod ReportedLemmas
mod ServeLemmas
mod RefreshLines
mod AskLines
-- lanes
mod LaneLemmas
-- rounds
mod RoundLemmas
pub mod LandingLemmas
mod SharedLemmas
-- all parts together
mod PartLemmas
-- replies in the order of the script
mod OrderLemmas
-- a whole run
pub mod HistoryLemmas
pub mod CloseLemmas
-- the last round
mod NumberBounds
pub mod CurrentLemmas
-- a script by the model
pub mod ScriptLemmas
pub mod Legality
mod Refreshes
-- a script in one lane
mod NumberLemmas
mod TurnEntries
mod StoreSteps
mod OneLaneLemmas
