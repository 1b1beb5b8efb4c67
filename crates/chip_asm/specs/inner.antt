-- Definitions for private functions. Blocks and Placements are about the first pass; HeldText,
-- KeptLine, Facts, Infos and Records are about stored lines; Codes is about the codes of lines;
-- Passes is about both passes; and Kept is about everything that is stored.
pub mod Blocks
pub mod Codes
pub mod Facts
pub mod HeldText
pub mod Infos
pub mod Kept
pub mod KeptLine
pub mod Passes
pub mod Placements
pub mod Records
