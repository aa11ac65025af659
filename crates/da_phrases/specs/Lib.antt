pub mod Exprs
pub mod Holds
pub mod Lists
pub mod Nests
pub mod Place
pub mod Reader
pub mod Types
pub mod View
