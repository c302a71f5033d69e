-- what a distiller computes
pub mod Kernel
pub mod Distil
-- what a version holds
pub mod History
-- which entries are allowed
pub mod Legal
-- what is asked and answered
pub mod Query
pub mod Answer
pub mod Machine
-- the laws of all histories
pub mod Laws
-- what the private functions promise
pub mod Asked
