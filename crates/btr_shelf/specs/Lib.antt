-- The pages of a device, and pages in memory.
pub mod DeviceBlocks
pub mod PageList
-- Laws that ghost members cite.
pub mod PageLaws
