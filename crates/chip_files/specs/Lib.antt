-- The definitions that the contracts of chip_files use.
-- Source: chosen by this project.
--     KeyLines     the lines of a file of key events, as script commands
pub mod KeyLines
