-- what a plan is made from
pub mod Sight
-- plans and their landings
pub mod Plan
pub mod Next
