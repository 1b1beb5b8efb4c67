-- The trace of a run, and its comparison with another trace.
-- Source: chosen by this project, except for FNV-1a (its draft by Fowler, Noll, Vo and Eastlake) and the state
-- of the machine.
--     Digits       numbers in hexadecimal
--     Sums         FNV-1a sums, and the bytes of a screen
--     Columns      the columns, their names, and the line that names them
--     Header       reading that line, and why a line doesn't name columns
--     Machine      the line that names the machine
--     Line         the line of a step, as fields
--     Json         the line of a step, as a JSON object
--     Form         the lines of each form
--     Lines        the lines of a trace
--     Difference   the first line at which two traces differ
--     inner        definitions that only proofs and private functions use; a reader may skip them
pub mod Digits
pub mod Sums
pub mod Columns
pub mod Header
pub mod Machine
pub mod Line
pub mod Json
pub mod Form
pub mod Lines
pub mod Difference
pub mod inner
