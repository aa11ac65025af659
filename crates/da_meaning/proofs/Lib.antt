pub mod CondsAt
pub mod GensAt
pub mod NumbersOn
pub mod OutsideAt
pub mod PatternsAt
pub mod ScopeIndexLaws
pub mod SlotScopeLaws
pub mod TermsAt
