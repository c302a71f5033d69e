-- what has happened in a hall
pub mod States
-- what one turn says of it
pub mod Turns
-- jobs, and many of them
pub mod Jobs
-- a plain store on a device, to which entries are offered one after another
pub mod PlainStore
-- laws that the ghost members of jobs cite
pub mod TurnLaws
