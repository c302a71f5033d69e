-- the commits that a version has, and the numbers of the entries that made the versions
pub mod Past
-- what is kept in memory of a history, and what contracts see of it
pub mod Readers
pub mod Board
pub mod Snapshot
-- what a checkpoint has
pub mod Rolling
pub mod Restoring
-- what shows of a history beside its points
pub mod Outline
-- what a question asks for that is not refused
pub mod Wanted
-- what the private functions promise
pub mod Stage
pub mod Answering
