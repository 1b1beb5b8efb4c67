pub mod ArgumentRules
pub mod CommandLemmas
pub mod CommandExamples
pub mod FaultLemmas
pub mod NameLemmas
pub mod NumberLemmas
pub mod OneCommand
pub mod WordLemmas
