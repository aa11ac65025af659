pub mod PatternsAt
pub mod RowsAt
pub mod TakenAt
pub mod TermsAt
