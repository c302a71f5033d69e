-- The counts of calls and of faults.
pub mod Faults
-- What several calls do to the bytes.
pub mod Bytes
-- The models of the implementations in memory.
pub mod Memory
