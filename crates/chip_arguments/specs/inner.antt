-- Definitions for private contracts: how commands are built.
pub mod Built
