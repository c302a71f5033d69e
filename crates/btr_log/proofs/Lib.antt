pub mod AppendLemmas
pub mod ExtentLemmas
pub mod FoundLemmas
pub mod HeadLemmas
pub mod LogLemmas
mod Pieces
mod AppendImages
mod GateAndHead
pub mod PieceLemmas
pub mod OnlyReading
