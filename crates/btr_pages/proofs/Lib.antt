pub mod LeafLemmas
pub mod PartLemmas
pub mod NumberLemmas
pub mod KnownLemmas
pub mod PageOfLemmas
mod NewPageLemmas
pub mod ReportedLemmas
pub mod ReportedNodeLemmas
pub mod PagesLemmas
pub mod BlockLemmas
pub mod RootPageLemmas
