pub mod Constants
pub mod KeepsShaped
pub mod QueryNotes
pub mod Refusing
pub mod Rows
pub mod Sound
pub mod Telling
pub mod Totality
