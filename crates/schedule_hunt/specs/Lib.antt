pub mod Hunt
pub mod Runs
pub mod Seeking
pub mod Shortening
pub mod Shown
pub mod ShownSteps
