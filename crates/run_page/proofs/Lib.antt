pub mod CellLemmas
pub mod ColumnLemmas
pub mod FlightLemmas
pub mod NameLemmas
pub mod RemarkLemmas
pub mod RunLemmas
pub mod ShownLemmas
pub mod WalkLemmas
