-- the points that a kernel looks at
pub mod Window
-- the trees of the inputs
pub mod Sources
-- what the private functions promise
pub mod Total
pub mod Places
pub mod Placed
pub mod Parts
pub mod Swept
pub mod Past
