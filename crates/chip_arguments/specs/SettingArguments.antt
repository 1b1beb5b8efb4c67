-- The settings if the arguments don't set them (chosen by this project).
use Rattle.std.specs.Prelude.{None}
use Rattle.chip_machine.specs.Profile.{quirks}
use Rattle.chip_machine.specs.declared.profile.Profile.TheVariants.{Schip}
use Rattle.chip_replay.specs.declared.limits.TheConstants.{LEAST_SPACING}
use Rattle.chip_arguments.specs.declared.command_line.SettingArguments.{SettingArguments}

abbrev pub default_arguments : SettingArguments
default_arguments =
    record { rate = 10; tape = None; seed = None; quirks = quirks Schip; spacing = LEAST_SPACING }
