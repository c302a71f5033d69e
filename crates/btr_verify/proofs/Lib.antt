-- values with equal fields
mod FieldLemmas
-- a past up to a version
mod PastLemmas
-- the span above a span
mod AboveLemmas
-- a stored node
mod OwnLemmas
-- the first wrong node, and the way to it
pub mod FirstWrongLemmas
mod DecidedLemmas
mod WrongLemmas
-- the node of a span in a tree, and a stored node that is that node
mod FoundLemmas
mod SameLemmas
-- the calls of a device, and the pages that they read
mod ReadLemmas
-- the past of a stream
mod StreamPastLemmas
-- how a page is judged
mod JudgeLemmas
-- the way to the first wrong node
mod DownLemmas
-- the marks of blocks
mod MarkLemmas
-- roots
mod RootLemmas
