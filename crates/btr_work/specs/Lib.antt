-- the levels of outputs
pub mod Levels
-- what a report says
pub mod Report
-- laws that the ghost members of jobs cite
pub mod ReportLaws
pub mod Laws
-- what one worker leaves
pub mod Alike
pub mod InOrder
-- what the private functions promise
pub mod Leveling
pub mod Refreshing
