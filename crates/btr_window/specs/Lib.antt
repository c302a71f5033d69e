-- What the private functions promise: the aggregate of a range, and its visits.
pub mod RangeEnds
-- What the private functions promise: the windows of a walk.
pub mod Accumulate
