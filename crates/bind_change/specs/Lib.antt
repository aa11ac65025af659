pub mod Groups
pub mod Parts
pub mod Reading
pub mod Replacing
pub mod Touched
pub mod Turning
