pub mod ChoiceLemmas
pub mod SuperLemmas
mod Fields
mod Prefix
mod ChoiceIsUnique
mod Writing
mod Side
