pub mod Heads
pub mod Laws
pub mod Marks
pub mod Prefix
pub mod Programs
pub mod Statements
pub mod Unknowns
pub mod Walks
