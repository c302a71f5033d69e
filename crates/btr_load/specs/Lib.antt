-- the points of a stream in batches
pub mod Batches
-- what the commits of one stream did
pub mod Work
-- what a load does
pub mod Loads
-- the laws of loads
pub mod There
pub mod Alike
pub mod Fits
pub mod InOrder
-- what private functions promise: the streams before any commit, and after the creates
pub mod Plan
-- the laws that the job of a stream cites
pub mod WorkLaws
