pub mod MoveLemmas
pub mod TellLemmas
pub mod WatchLemmas
