pub mod ChangedSlots
pub mod Found
pub mod Nodes
pub mod Slots
pub mod Newer
pub mod Roots
pub mod FetchedRoots
