pub mod Cells
pub mod InUse
pub mod Index
pub mod Marks
pub mod Pool
pub mod Release
pub mod Sets
