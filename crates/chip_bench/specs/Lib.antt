-- The definitions behind the contracts of chip_bench (chosen by this project).
--     Printing     the output of commands about a source, and the effects of a session
--     Running      the input, output and status of a run of the program
--     Holding      a writer that buffers bytes
--     Tracing      the output of `trace` for a session's run
--     Testing      the result of `test` for files of cases
--     Doing        the effects of the program for each command that its arguments can specify
--     inner        for private contracts: the input that was read, and the files that were written
pub mod Printing
pub mod Running
pub mod Holding
pub mod Tracing
pub mod Testing
pub mod Doing
pub mod inner
