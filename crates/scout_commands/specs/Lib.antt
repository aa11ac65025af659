pub mod Endings
pub mod ExitCode
pub mod Options
pub mod Replies
pub mod Told
pub mod Words
