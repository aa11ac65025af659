pub mod Faults
pub mod Gifts
pub mod Hearing
pub mod HeldPackets
pub mod NodeCall
pub mod NodeRun
