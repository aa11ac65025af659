pub mod Beside
pub mod Telling
pub mod TellingSteps
pub mod Watching
