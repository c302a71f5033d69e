pub mod PutLemmas
pub mod ListLemmas
pub mod ListedLemmas
pub mod ValueLemmas
pub mod FoundLemmas
pub mod TrailLemmas
pub mod EntryLemmas
pub mod NumberLemmas
