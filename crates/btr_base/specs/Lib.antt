-- data
pub mod Point
pub mod Range
pub mod Cut
pub mod Span
-- what a stream holds, and what a commit does to it
pub mod Bag
pub mod Commit
pub mod Crowded
-- what is asked of points
pub mod Agg
pub mod Nearest
pub mod Windows
pub mod Changes
-- numbers as text
pub mod Decimal
-- what the definitions entail
pub mod Laws
