-- The subjects of the contracts of chip_analysis (chosen by this project).
--     Checking     what `check` prints
--     Exploring    what `explore` is asked, and what it prints
--     Proving      what `prove` prints of the properties that a source states
--     Commands     what each command did
--     inner        for private contracts: sets, what `check --cover` takes as executed, what `explore`
--                  wrote, and what `prove` prints
pub mod Checking
pub mod Exploring
pub mod Proving
pub mod Commands
pub mod inner
