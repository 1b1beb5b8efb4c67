pub mod ReadingLemmas
pub mod OpenedLemmas
