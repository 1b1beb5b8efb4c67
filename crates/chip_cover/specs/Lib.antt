-- The executed lines of a source (chosen by this project).
--     Marks     the listing of a source with a mark before each executed line
pub mod Marks
