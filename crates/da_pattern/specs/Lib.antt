pub mod RowView
pub mod Taken
