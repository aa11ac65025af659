pub mod RunLemmas
pub mod SeekLemmas
pub mod ShortLemmas
pub mod ShownLaws
pub mod StuckLaws
pub mod ToldLaws
pub mod WatchLaws
