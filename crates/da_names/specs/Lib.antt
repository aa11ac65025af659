pub mod ClassRules
pub mod DeedView
pub mod Early
pub mod MainView
