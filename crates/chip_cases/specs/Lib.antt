-- The definitions behind the contracts of chip_cases (chosen by this project).
--     Lines        the kinds of lines in a file of cases that can be recognized from the line alone
--     Steps        the commands of a case, and the expected lines below each
--     Cases        the cases of a file
--     Matching     when an answer matches the expected lines
--     inner        definitions of private contracts; a reader may skip it
pub mod Lines
pub mod Steps
pub mod Cases
pub mod Matching
pub mod inner
