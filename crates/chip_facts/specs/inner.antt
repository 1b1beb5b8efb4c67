-- The meaning of a table, and how steps lead from row to row.
pub mod Indexes
pub mod Operations
pub mod Knowing
pub mod Steps
pub mod Transfer
pub mod Tables
