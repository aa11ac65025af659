pub mod Choice
pub mod Lean
pub mod Looks
pub mod Marks
pub mod Order
pub mod Roots
pub mod Walks
