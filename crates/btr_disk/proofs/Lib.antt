pub mod ByteLemmas
pub mod GateLemmas
pub mod ImageLemmas
pub mod MomentLemmas
pub mod PartLemmas
mod PutLemmas
mod PublishCalls
mod NeitherByte
mod TornBlocks
mod FuseImages
mod Filled
mod Recording
