pub mod CellPartLemmas
mod WholeLemmas
