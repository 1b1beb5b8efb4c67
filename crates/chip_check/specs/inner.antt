-- Definitions for private contracts and proofs.
--     Known     the names that lines of help look up in a source
--     Printing  the two formats in which findings in a source are printed
pub mod Known
pub mod Printing
