pub mod Either
pub mod Filtering
pub mod GoodPlaces
pub mod KeepsTypes
pub mod Making
pub mod Prints
pub mod SetSlots
