-- Definitions that only proofs and private functions use.
--     Codes      the encoding of a trace's progress as data
--     Comparing  the progress of a comparison
--     Naming     the names of columns that have not been read yet
--     Rows       rows of a screen as numbers
--     Usual      the first columns of a trace with the default columns
pub mod Codes
pub mod Comparing
pub mod Naming
pub mod Rows
pub mod Usual
