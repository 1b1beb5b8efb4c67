pub mod SymbolSteps
pub mod NameValues
pub mod ValueSteps
