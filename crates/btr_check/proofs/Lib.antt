-- a body that breaks the format
mod BreakLemmas
-- two walks over one log
mod MeetLemmas
-- the root of an entry in pages
mod LeadLemmas
-- what was seen of a walk
mod SeenLemmas
-- a device that holds a legal history
mod HeldLegal
-- a legal log stands
mod LegalStands
-- at most one verdict is right
mod OneVerdict
-- the next entry, and the version that it makes
mod CheckpointLemmas
mod StagingLemmas
-- what a checker has seen
mod CheckerLemmas
-- the pages of a whole log, and its trees
mod PageLemmas
mod TreesLemmas
-- the verdict on a device
mod CheckLemmas
