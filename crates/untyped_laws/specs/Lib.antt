pub mod Alike
pub mod Beside
pub mod Flow
pub mod Follows
pub mod Laws
pub mod Retyped
