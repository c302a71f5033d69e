-- what a plan is made from
pub mod Sight
-- what it is
pub mod Plan
-- what the private functions promise
pub mod Parts
