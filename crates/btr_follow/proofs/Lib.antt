pub mod FrameLemmas
pub mod WorldLemmas
pub mod Delivering
mod PlayLemmas
pub mod TakingLemmas
pub mod ShippingLemmas
