pub mod FeedLemmas
mod TimesOutside
