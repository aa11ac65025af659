pub mod Declarable
pub mod Fit
pub mod Listed
pub mod Narrow
pub mod Notes
pub mod Sights
