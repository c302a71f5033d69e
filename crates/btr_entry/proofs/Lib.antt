pub mod NumberLemmas
pub mod ItemLemmas
pub mod FrameLemmas
pub mod ChangeLemmas
pub mod SpecLemmas
pub mod SpellingLemmas
pub mod FormatLemmas
