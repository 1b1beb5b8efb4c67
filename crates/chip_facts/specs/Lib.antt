-- Facts about all states that a player can reach.
-- Source: chosen by this project.
--     Sets            sets of numbers as sequences of bits
--     Reached         the states that any keys, random bytes and ticks lead to
--     Facts           statements about all of these states
--     Rows            what the rows of a table state about them
--     inner           the meaning of a table, and how steps lead from row to row; a reader may skip it
pub mod Facts
pub mod Reached
pub mod Rows
pub mod Sets
pub mod inner
