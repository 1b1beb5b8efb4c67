-- The models as numbers, and definitions for private contracts: how far a script has been carried
-- out, and how the parts of a kept run fit together.
pub mod Codes
pub mod Progress
pub mod InStep
