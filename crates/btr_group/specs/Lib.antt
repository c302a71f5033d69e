-- what the session of a group commits
pub mod Serves
-- of which list the state that a gate carries is
pub mod State
pub mod StateLaws
-- what contracts see of a seat, and what its calls do
pub mod Seats
pub mod Offers
pub mod Known
pub mod Close
-- the groups of all streams of a hall, and seats of them
pub mod Sets
pub mod SetLaws
-- lanes that share groups
pub mod LaneSeats
-- the close of all groups
pub mod Closing
-- what the private functions promise
pub mod Turns
pub mod Notes
pub mod SetSteps
pub mod LaneSteps
