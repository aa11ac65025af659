pub mod ProgramLemmas
pub mod VerdictLemmas
pub mod WatchLemmas
