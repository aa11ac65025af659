pub mod Cells
pub mod Outcome
pub mod Remarks
pub mod RunRows
pub mod Running
pub mod Walking
