pub mod OptionLemmas
pub mod ReplyLemmas
pub mod TopLemmas
pub mod WordLemmas
