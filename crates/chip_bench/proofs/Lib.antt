pub mod RunningLemmas
pub mod TestLemmas
pub mod TraceLemmas
pub mod SessionLemmas
pub mod DoingLemmas
