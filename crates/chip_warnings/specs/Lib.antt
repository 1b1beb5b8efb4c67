-- Warnings: things in a source that its author may not mean.
-- Source: chosen by this project.
--     Warnings      the numbers of warnings, and their places in a source
--     Seen          the parts of a line that matter to the lines around it
--     Instructions  the effects of instructions that warnings depend on
--     Marked        the addresses that instructions name, and the purpose of each
--     Reach         the places that execution reaches
--     Warned        the warnings of each line
pub mod Warnings
pub mod Seen
pub mod Instructions
pub mod Marked
pub mod Reach
pub mod Warned
pub mod inner
