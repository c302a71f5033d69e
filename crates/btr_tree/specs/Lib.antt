-- The past of a stream: commits on a base, and the points that they leave.
pub mod History
-- Which spans are nodes, and the versions of nodes and slots.
pub mod Nodes
-- Which spans are crowded.
pub mod Crowd
-- How the slots of an inner node lie in memory.
pub mod Packed
pub mod Slots
-- What a tree in memory is, and what a visit shows of it.
pub mod Shape
pub mod EachHistory
-- What a source of nodes finds.
pub mod NodeSource
-- The nodes that a commit writes.
pub mod NewNodes
-- Where nodes lie on the device.
pub mod Stored
-- The tree of a stream, what a commit to it gives, and why a commit is not applied.
pub mod Root
pub mod Applied
-- Nodes that are newer than a version.
pub mod Newer
pub mod Uncounted
pub mod Agree
-- What the private functions promise.
pub mod Change
pub mod Shared
-- To which nodes a root leads on the device, and trees that are made of nodes read from there.
pub mod Leads
pub mod Opened
-- Nodes that are fetched from blocks.
pub mod PageNodes
pub mod Spots
pub mod FetchedLaws
pub mod Fetched
