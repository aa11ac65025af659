pub mod Promised
pub mod Reading
pub mod Setups
pub mod Statements
pub mod Taking
