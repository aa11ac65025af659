pub mod AmongLaws
pub mod OrderLemmas
pub mod PickLemmas
pub mod ShuffleLemmas
