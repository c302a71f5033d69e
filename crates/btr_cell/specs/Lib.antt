-- what the private functions promise
pub mod Cells
