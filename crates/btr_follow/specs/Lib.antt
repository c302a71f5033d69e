-- frames and their bytes
pub mod Frames
pub mod Laws
-- what a follower answers to a frame
pub mod Hears
-- a leader and its follower
pub mod World
pub mod Followed
-- the follower over an engine
pub mod Follower
pub mod Delivery
-- what a leader ships
pub mod Shipping
-- what the private functions promise
pub mod Play
pub mod Taking
