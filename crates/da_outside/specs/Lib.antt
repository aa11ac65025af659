pub mod Link
pub mod Memory
pub mod Outside
pub mod Script
pub mod ScriptLink
pub mod ScriptSpawner
pub mod Spawner
