-- The subjects of the contracts of chip_host (chosen by this project).
--     Endings          how commands end, and why they fail
--     Printing         what a command prints
--     SettingArguments the settings that the arguments ask for
--     Reading          what commands read
pub mod Endings
pub mod Printing
pub mod SettingArguments
pub mod Reading
