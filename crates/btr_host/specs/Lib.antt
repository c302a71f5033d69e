pub mod LogEnd
pub mod Renewed
