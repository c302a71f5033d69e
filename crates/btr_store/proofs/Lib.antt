-- what a crash leaves of the steps of a hall
pub mod Moments
-- how many blocks its entries need
mod Rooms
-- what work leaves
pub mod WorkLemmas
pub mod WorksOn
-- which entries are allowed
pub mod Allowing
-- the lines that are written
pub mod TranscriptLemmas
mod Benign
mod StreamLemmas
-- the work of each command
mod FewVersions
mod OutputLineLemmas
mod DistilCompletes
pub mod DistilLemmas
mod LoadLineLemmas
mod LoadCompletes
mod LoadLemmas
mod DefineLemmas
pub mod SampleLineLemmas
mod SampleLemmas
mod SampleCompletes
mod SampleLawLemmas
-- scripts
pub mod ReplyLemmas
mod LiveLineLemmas
pub mod LiveAllowing
mod LiveLemmas
-- scripts with shared buffers
mod BatchLemmas
mod SharedLaneLemmas
mod SharedAllowing
mod SharedLemmas
mod SharesLemmas
