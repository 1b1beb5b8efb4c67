pub mod CaseLemmas
pub mod RowLemmas
