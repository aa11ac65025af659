pub mod Budgets
pub mod OrderSteps
pub mod Orders
pub mod Picked
