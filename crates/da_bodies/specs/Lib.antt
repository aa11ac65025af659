pub mod BodyView
pub mod Repeats
pub mod ScopeView
pub mod Telling
pub mod Told
pub mod ToldStmts
pub mod Variables
