-- the lines of a talk, and their replies
pub mod Answers
-- what a desk did
pub mod Desk
-- what holds of a desk that is later
pub mod DeskLaws
pub mod Questions
-- what is so of a store that was served
pub mod Serves
pub mod ServesQuestions
-- beside `live`
pub mod Laws
