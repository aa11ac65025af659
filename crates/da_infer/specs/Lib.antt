pub mod Answers
pub mod Fills
pub mod Known
pub mod Laws
pub mod Marked
pub mod Search
pub mod Unknowns
