pub mod EachLemmas
pub mod LineLemmas
mod MadeMoments
mod TakeLemmas
mod AskLemmas
