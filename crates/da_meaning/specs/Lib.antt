pub mod Alone
pub mod MeaningView
pub mod ScopeIndex
pub mod SlotScope
