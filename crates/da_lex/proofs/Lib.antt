pub mod Alone
pub mod AnswerLemmas
pub mod Facts
pub mod LevelLemmas
pub mod ScanFits
pub mod TokenCounts
