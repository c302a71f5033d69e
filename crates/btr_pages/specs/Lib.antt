-- The pages of a stream's nodes, block by block.
pub mod Pages
-- The pages of the nodes that a commit writes.
pub mod Reported
-- Trees that were made of pages.
pub mod Known
-- Blocks that are read as pages.
pub mod Blocks
-- What the private functions promise.
pub mod Made
