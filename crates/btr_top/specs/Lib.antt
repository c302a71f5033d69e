-- the input that is read, and the store that is opened
pub mod Command
pub mod Room
-- the commands
pub mod Work
pub mod Live
pub mod Ask
pub mod Serve
pub mod Cold
pub mod Format
pub mod Checkpoint
pub mod Check
pub mod Ship
pub mod Hear
-- the whole run
pub mod Ending
pub mod Run
-- the limits
pub mod Laws
