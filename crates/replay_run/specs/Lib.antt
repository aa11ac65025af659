pub mod Replay
pub mod Stress
pub mod Waiting
