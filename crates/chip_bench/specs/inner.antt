-- Definitions for private contracts: the input that a command read, and the files that were written.
pub mod Reads
pub mod Written
