-- Definitions for private functions: the contents of a table. No public clause cites them, and a
-- reader may skip them.
pub mod Entries
