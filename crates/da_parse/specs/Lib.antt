pub mod FirstFault
pub mod HoldsBody
pub mod Loose
pub mod Members
pub mod Parameters
pub mod Parse
pub mod Programs
pub mod Stmts
