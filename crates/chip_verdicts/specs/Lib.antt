-- The targets of a search that facts exclude.
-- Source: chosen by this project.
--     Verdict     a target that is never met, and what that implies for searches
--     inner       definitions for private contracts; a reader may skip them
pub mod Verdict
pub mod inner
