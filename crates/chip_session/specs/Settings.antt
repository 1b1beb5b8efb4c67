-- The settings of a session (chosen by this project).
use Rattle.std.specs.Prelude.{ℕ, ◌<◌, ◌≤◌, ◌||◌, List, [], ◌∷◌, length, nat_lt, Option, Some, None, if◌then◌else◌}
use Rattle.chip_machine.specs.declared.limits.TheConstants.{TAPE_BYTES}
use Rattle.chip_machine.specs.Profile.{quirks}
use Rattle.chip_machine.specs.declared.profile.Profile.TheVariants.{Schip}
use Rattle.chip_machine.specs.declared.quirks.Quirks.{Quirks}
use Rattle.chip_replay.specs.declared.limits.TheConstants.{LEAST_SPACING, MOST_RATE, MOST_SPACING}
use Rattle.chip_session.specs.declared.settings.SetError.{SetError}
use Rattle.chip_session.specs.declared.settings.SetError.TheVariants.{RateOutOfRange, TapeLength, SpacingOutOfRange}

-- the number of steps per tick of the timers, the tape of random bytes, the quirks of the machine,
-- and the number of steps between two checkpoints of its run, which never affects an answer
pub record SessionSettings : Type 0 where
  pub rate : ℕ
  pub tape : List ℕ
  pub quirks : Quirks
  pub spacing : ℕ

-- the settings with a rate and a tape, and the defaults for the rest
abbrev pub settings_of : ℕ → List ℕ → SessionSettings
settings_of rate tape =
    record { rate = rate; tape = tape; quirks = quirks Schip; spacing = LEAST_SPACING }

-- an allowed number of steps per tick
abbrev pub IsRate : ℕ → Type 0
IsRate rate = (0 < rate) × (rate ≤ MOST_RATE)

-- the first reason why these settings aren't allowed, if there is one
abbrev pub settings_fault : ℕ → List ℕ → Option SetError
settings_fault rate tape =
    if nat_lt rate 1 || nat_lt MOST_RATE rate then Some RateOutOfRange
    else if nat_lt (length tape) 1 || nat_lt TAPE_BYTES (length tape) then Some TapeLength
    else None

-- the reason why this spacing isn't allowed, if there is one
abbrev pub spacing_fault : ℕ → Option SetError
spacing_fault spacing =
    if nat_lt spacing LEAST_SPACING || nat_lt MOST_SPACING spacing then Some SpacingOutOfRange
    else None

-- the program's settings, unless its arguments choose others
abbrev pub default_settings : SessionSettings
default_settings = settings_of 10 (0 ∷ [])
