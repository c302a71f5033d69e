-- Which entries have a spelling, and the one spelling of each.
pub mod Grammar
-- The format of the extent of each entry.
pub mod Format
-- What the private functions promise: the pieces that decoding takes one after another.
pub mod Fields
