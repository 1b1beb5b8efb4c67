-- Definitions of private contracts.
pub mod Rows
