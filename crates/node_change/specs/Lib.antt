pub mod Between
pub mod Filtered
pub mod Joined
pub mod Lending
pub mod United
