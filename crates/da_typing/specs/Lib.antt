pub mod Aggregates
pub mod Chains
pub mod KnownView
pub mod SideView
