-- What the private functions promise.
pub mod Comparison
-- Two roots whose nodes are fetched.
pub mod FetchedRoots
