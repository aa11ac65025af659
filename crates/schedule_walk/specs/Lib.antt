pub mod Allowed
pub mod Next
pub mod Rest
pub mod Walk
