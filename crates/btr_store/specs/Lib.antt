-- how work on a device begins, and what it leaves
pub mod Closing
pub mod Work
-- the lines that are written, and the status that they ask for
pub mod Report
pub mod Status
pub mod Transcript
pub mod Replies
pub mod Completes
-- the work of each command
pub mod Streams
pub mod Distil
pub mod LoadLines
pub mod Load
pub mod Define
pub mod SampleLines
pub mod Sample
pub mod SampleRoom
pub mod SampleLaw
pub mod SampleLimits
pub mod Live
pub mod Shared
-- what the private functions promise
pub mod LiveLines
pub mod SharedLines
