-- the rule of a check
pub mod Rule
-- a log that was read whole
pub mod Whole
-- which verdict is right
pub mod Verdict
-- what a check promises
pub mod Check
-- what holds of all devices
pub mod Laws
-- what the private functions promise
pub mod Staging
pub mod Checkpoints
pub mod Checker
pub mod Checking
