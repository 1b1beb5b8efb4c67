-- Definitions of private contracts.
pub mod Bounds
