-- The settings that the arguments ask for (chosen by this project).
use Rattle.std.specs.Prelude.{ℕ, List, [], ◌∷◌, Option, Some, None, Result, Ok, Err, option_and_then}
use Rattle.std.specs.Borrow.{Bor}
use Rattle.hex.specs.Hex.{decode_of}
use Rattle.chip_session.specs.Settings.{SessionSettings, settings_fault, spacing_fault}
use Rattle.chip_session.specs.Tape.{tape_of}
use Rattle.chip_arguments.specs.declared.command_line.SettingArguments.{SettingArguments}
use Rattle.chip_session.specs.declared.settings.SetError.{SetError}

abbrev pub if_ok : {T E : Type 0} → Result T E → Option T
if_ok (Ok value) = Some value
if_ok (Err e) = None

abbrev pub tape_by : Option (Bor (List ℕ)) → Option ℕ → Option (List ℕ)
tape_by (Some digits) (Some seed) = None
tape_by (Some digits) None = if_ok (decode_of digits.now)
tape_by None (Some seed) = Some (tape_of seed)
tape_by None None = Some (0 ∷ [])

-- The tape of `--tape HEX` or of `--seed N`, or one zero byte if neither is given. There is no tape if
-- both are given, or if the digits don't represent bytes.
abbrev pub tape_asked : SettingArguments → Option (List ℕ)
tape_asked arguments = tape_by arguments.tape arguments.seed

-- the settings, if they have no fault
abbrev pub if_faultless : Option SetError → SessionSettings → Option SessionSettings
if_faultless None settings = Some settings
if_faultless (Some why) settings = None

-- the settings with a tape, and with the other values of the arguments
abbrev pub settings_with : SettingArguments → List ℕ → Option SessionSettings
settings_with arguments tape =
    option_and_then (if_faultless (spacing_fault arguments.spacing))
    (if_faultless (settings_fault arguments.rate tape)
    (record { rate = arguments.rate; tape = tape; quirks = arguments.quirks; spacing = arguments.spacing }))

-- the settings that the arguments ask for; no settings if the tape is bad
abbrev pub settings_asked : SettingArguments → Option SessionSettings
settings_asked arguments = option_and_then (settings_with arguments) (tape_asked arguments)
