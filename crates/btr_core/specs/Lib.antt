-- the events and replies of the model
pub mod Events
-- what contracts see of a machine
pub mod Machine
-- what the private functions promise
pub mod Staging
