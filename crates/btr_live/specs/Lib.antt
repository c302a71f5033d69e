-- what a line asks for, and what it replies
pub mod Feeds
pub mod Meaning
pub mod Replies
pub mod Reasons
-- lanes
pub mod Lanes
pub mod SharedLines
pub mod SharedLanes
pub mod Rounds
pub mod OneHistory
-- a whole run
pub mod Live
-- a script in one lane
pub mod Script
pub mod OneLane
pub mod ScriptLaws
-- what the private functions promise
pub mod Serving
pub mod LinesOf
pub mod Running
pub mod LaneLaws
pub mod SharedLaws
pub mod RunningLaws
pub mod RoundsLaws
pub mod Parts
pub mod PartLaws
