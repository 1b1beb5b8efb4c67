-- The settings that a host requests, and the numbers that `session_open` returns (chosen by this project).
use Rattle.std.specs.Prelude.{ℕ, ◌+◌, ◌==◌, List, length, Option, Some, None, option_and_then, unwrap_or, if◌then◌else◌}
use Rattle.chip_asm.specs.Lines.{open_fault}
use Rattle.chip_asm.specs.declared.refusal.OpenError.{OpenError}
use Rattle.chip_asm.specs.declared.refusal.OpenError.TheVariants as unopened
use Rattle.chip_machine.specs.Profile.{quirks}
use Rattle.chip_machine.specs.QuirkList.{with_choices}
use Rattle.chip_machine.specs.declared.profile.Profile.{Profile}
use Rattle.chip_machine.specs.declared.profile.Profile.TheVariants.{Schip, Vip, Chip48, Schip10, SchipModern, Octo}
use Rattle.chip_machine.specs.declared.quirks.Quirks.{Quirks}
use Rattle.chip_session.specs.Settings.{SessionSettings, settings_fault, spacing_fault}
use Rattle.chip_session.specs.declared.settings.SetError.{SetError}
use Rattle.chip_session.specs.declared.settings.SetError.TheVariants as unset
use Rattle.chip_web.specs.declared.asked.AskedSettings.{AskedSettings}
use Rattle.chip_web.specs.declared.status.TheConstants.{DONE, NO_MEMORY, RATE_OUT_OF_RANGE, TAPE_LENGTH, SPACING_OUT_OF_RANGE, UNKNOWN_PROFILE, UNKNOWN_QUIRKS, TOO_MANY_LINES, LINE_TOO_LONG}

-- the profile with a number, if there is one
abbrev pub profile_numbered : ℕ → Option Profile
profile_numbered number =
    if number == 0 then Some Schip
    else if number == 1 then Some Vip
    else if number == 2 then Some Chip48
    else if number == 3 then Some Schip10
    else if number == 4 then Some SchipModern
    else if number == 5 then Some Octo
    else None

-- quirks, changed by the choices in a list in the format of `--quirks`; an empty list contains no choices
abbrev pub quirks_listed : List ℕ → Quirks → Option Quirks
quirks_listed list q = if length list == 0 then Some q else with_choices list q

-- the quirks of the requested profile, changed by the choices in a list
abbrev pub asked_quirks : AskedSettings → List ℕ → Option Quirks
asked_quirks asked list =
    option_and_then (λ p. quirks_listed list (quirks p)) (profile_numbered asked.profile)

-- the number for a fault of settings
abbrev pub settings_status : SetError → ℕ
settings_status unset.RateOutOfRange = RATE_OUT_OF_RANGE
settings_status unset.TapeLength = TAPE_LENGTH
settings_status unset.OutOfMemory = NO_MEMORY
settings_status unset.SpacingOutOfRange = SPACING_OUT_OF_RANGE

-- the number for the reason why a source doesn't open
abbrev pub source_status : OpenError → ℕ
source_status (unopened.LineTooLong line) = LINE_TOO_LONG + line
source_status unopened.TooManyLines = TOO_MANY_LINES
source_status unopened.OutOfMemory = NO_MEMORY

abbrev pub spacing_status : Option SetError → ℕ
spacing_status None = DONE
spacing_status (Some fault) = settings_status fault

abbrev pub status_of_settings : Option SetError → Option SetError → ℕ
status_of_settings (Some fault) spacing = settings_status fault
status_of_settings None spacing = spacing_status spacing

abbrev pub status_of_list : Option Quirks → ℕ
status_of_list None = UNKNOWN_QUIRKS
status_of_list (Some q) = DONE

abbrev pub status_of_profile : Option Profile → List ℕ → ℕ
status_of_profile None list = UNKNOWN_PROFILE
status_of_profile (Some profile) list = status_of_list (quirks_listed list (quirks profile))

-- the number for the fault of the profile or of the list of quirks, or `DONE` if there is no fault
abbrev pub quirks_status : AskedSettings → List ℕ → ℕ
quirks_status asked list = status_of_profile (profile_numbered asked.profile) list

abbrev pub status_after : ℕ → ℕ → ℕ
status_after status next = if status == DONE then next else status

-- the number for the first fault of the settings, or `DONE` if there is no fault; the order is: the
-- profile, the list of quirks, the rate and the tape, the spacing
abbrev pub asked_status : AskedSettings → (tape list : List ℕ) → ℕ
asked_status asked tape list =
    status_after (quirks_status asked list)
    (status_of_settings (settings_fault asked.rate tape) (spacing_fault asked.spacing))

-- the requested settings
abbrev pub asked_settings : AskedSettings → (tape list : List ℕ) → SessionSettings
asked_settings asked tape list =
    record {
      rate = asked.rate;
      tape = tape;
      quirks = unwrap_or (asked_quirks asked list) (quirks Schip);
      spacing = asked.spacing;
    }

abbrev pub status_of_source : Option OpenError → ℕ
status_of_source None = DONE
status_of_source (Some fault) = source_status fault

-- the number for the first fault of the settings and the source, or `DONE` if there is no fault
abbrev pub open_status : AskedSettings → (tape list source : List ℕ) → ℕ
open_status asked tape list source =
    status_after (asked_status asked tape list) (status_of_source (open_fault source))
