pub mod RoundLemmas
mod TalkLemmas
