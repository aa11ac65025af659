pub mod CanonLaws
pub mod ListedLaws
pub mod LocalsLaws
pub mod PlainForms
pub mod RangeLaws
pub mod RowForms
pub mod TermForms
