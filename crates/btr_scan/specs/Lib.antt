-- What a walk over a range promises.
pub mod Rows
-- What the private functions promise: the first and the last of the points between two times.
pub mod FirstLast
