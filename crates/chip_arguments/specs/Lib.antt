-- The subjects of the contracts of chip_arguments (chosen by this project).
--     CommandLine  the arguments that the program takes, as `clap` sees them
--     CommandArguments the command that arguments ask for, given the values that `clap` finds in them
--     SettingArguments the settings if no argument sets them
--     Version      what `--version` prints
--     inner        definitions of private contracts: how commands are built
pub mod CommandLine
pub mod SettingArguments
pub mod CommandArguments
pub mod Version
pub mod inner
