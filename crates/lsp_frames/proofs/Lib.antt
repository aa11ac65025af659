pub mod CutLemmas
pub mod Examples
pub mod Facts
pub mod FrameLaw
pub mod InputLemmas
pub mod LeftLemmas
