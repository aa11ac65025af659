pub mod CondForms
pub mod ExprForms
pub mod Levels
pub mod PatternForms
pub mod TermForms
pub mod TypeForms
pub mod Walks
