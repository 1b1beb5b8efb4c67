-- The definitions of the symbols of a source. They are part of the trusted base.
--     Names        names, and their values among symbols
--     Tables       a table of symbols as contracts see it
--     inner        definitions for private functions; no public clause cites them, and a reader may
--                  skip them
pub mod Names
pub mod Tables
pub mod inner
