pub mod Bound
pub mod Locals
pub mod Ranges
pub mod Told
