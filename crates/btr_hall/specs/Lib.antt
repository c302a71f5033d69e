-- the list of a hall, and the engine at its end
pub mod Trace
pub mod Store
pub mod StoreLaws
-- what contracts see of a session, and what its calls do
pub mod Session
pub mod Found
pub mod Commit
pub mod Landing
-- what the private functions promise
pub mod Superseded
pub mod Travel
-- shared buffers with group commit: their list, and what their calls do
pub mod GroupBook
pub mod GroupFaults
pub mod GroupCalls
