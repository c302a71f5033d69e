-- What one record says.
pub mod Field
pub mod Row
-- What the records of an input say, by streams.
pub mod Rows
pub mod Streams
-- What a sample is.
pub mod Sample
-- The bytes that mark the parts of a row.
pub mod Laws
-- What private functions promise: a list of rows that grows, and a reader between two records.
pub mod Places
pub mod Builder
pub mod Reading
