-- Definitions for private functions: digits, rows of words, the forms of a name, values, and
-- expressions in postfix order. No public clause cites these files.
pub mod Atom
pub mod ByDigits
pub mod LastValue
pub mod Keywords
pub mod NamedForms
pub mod Postfix
pub mod Scanned
pub mod Seen
pub mod SeenShape
pub mod Written
