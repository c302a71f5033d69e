pub mod EndsInside
pub mod Adding
pub mod Cells
pub mod Starts
pub mod Ranges
pub mod Joined
pub mod Bounds
