pub mod NumberLemmas
pub mod LineLemmas
pub mod ScriptLemmas
pub mod WriteLemmas
pub mod ProgressLemmas
pub mod ServeLemmas
pub mod AnswerLemmas
pub mod ImageLemmas
pub mod TapeLemmas
pub mod TextLemmas
pub mod RunLemmas
pub mod KeyLemmas
pub mod RowLemmas
mod SameParts
