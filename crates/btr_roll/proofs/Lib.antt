pub mod RollLemmas
mod LengthLemmas
