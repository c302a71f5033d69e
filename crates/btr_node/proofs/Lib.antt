mod Pieces
mod Filled
mod Spelled
mod Places
mod FitLemmas
mod SpanLemmas
mod TableLemmas
mod Tests
pub mod PageLemmas
