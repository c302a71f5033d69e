-- what the body of an extent has
pub mod Content
-- how far a log was read
pub mod Reached
-- which block may be a root
pub mod RootTest
-- the pages below a checkpoint
pub mod Below
-- where the reading of a log starts
pub mod Start
-- a walk over the log of a device
pub mod Walk
-- what was seen of a log, and a rule that its entries keep
pub mod Seen
-- what breaks the format of a store
pub mod Damage
-- what an opening does
pub mod Opening
-- why a part of a store was not read
pub mod Reads
-- what holds of all devices
pub mod Laws
-- what the private functions promise
pub mod Reading
-- how far a log was read
pub mod Place
-- what the functions promise that add an extent
pub mod Loading
-- a walk over a log between its steps
pub mod LogWalk
-- what the functions promise that read a checkpoint
pub mod Checkpoint
-- a sealed store as a shelf: its streams with the roots of their versions, and its opening
pub mod Shelf
pub mod Sealed
