pub mod AllowedLaws
pub mod AllowedLemmas
pub mod NameLemmas
pub mod NextLemmas
pub mod RestLaws
pub mod SpelledLaws
pub mod WalkLemmas
pub mod WithinLaws
