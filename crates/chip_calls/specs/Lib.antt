-- The definitions that the program of calls uses.
-- Source: chosen by this project.
--     Toy    the small machine that tests a replay
pub mod Toy
