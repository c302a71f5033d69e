-- the bytes of an extent
pub mod Body
pub mod Streamed
-- to which nodes roots lead
pub mod Roots
-- which history a device holds
pub mod Holds
pub mod Stored
-- the superblock of a higher format that an entry may need, and the calls of the device
pub mod Raise
-- what contracts see of an engine, and what its calls do
pub mod Place
pub mod Engine
pub mod Travel
pub mod Step
pub mod Mark
-- what the private functions promise
pub mod Pending
