pub mod CountLemmas
pub mod RunLemmas
pub mod StressLemmas
pub mod WaitLemmas
