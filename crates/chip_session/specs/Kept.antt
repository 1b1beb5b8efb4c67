-- The data that a bench keeps in addition to the lines: the run of the last image that the source
-- had (chosen by this project).
use Rattle.std.specs.Prelude.{◌≡◌, ◌≢◌, ℕ, ◌≤◌, ◌-◌, ◌+◌, ◌*◌, ◌/◌, List, [], min, Option, Some, None, OnSome, IfNone, unwrap_or, Result, OnOk, IfErr}
use Rattle.std.specs.FinMap as map
use Rattle.chip_machine.specs.State.{State}
use Rattle.chip_machine.specs.Start.{start_of}
use Rattle.chip_machine.specs.Step.{step_of, touches}
use Rattle.chip_replay.specs.Image.{affected}
use Rattle.chip_replay.specs.Keys.{held, Events}
use Rattle.chip_replay.specs.Run.{run}
use Rattle.chip_session.specs.Settings.{SessionSettings}
use Rattle.chip_session.specs.Session.{Text, Session, session_with}
use Rattle.chip_session.specs.declared.refusal.Refusal.{Refusal}
use Rattle.chip_session.specs.declared.refusal.Refusal.TheVariants.{AnswerMemory}

-- the settings; the key events; the last image that the source had, or the empty image; the step up
-- to which that image's run is still valid; and the number of steps executed
pub record KeptRun : Type 0 where
  pub settings : SessionSettings
  pub keys : Events
  pub last_image : List ℕ
  pub reach : ℕ
  pub ran : ℕ

-- the run of the empty image, without key events
abbrev pub empty_run : SessionSettings → KeptRun
empty_run settings =
    record { settings = settings; keys = map.empty; last_image = []; reach = 0; ran = 0 }

-- the session with these lines, and with the key events and the settings of a kept run
abbrev pub session_on : List Text → KeptRun → Session
session_on lines kept = session_with lines kept.keys kept.settings

-- the last image is the image of the lines, if they have one
abbrev pub IsLastImage : Option (List ℕ) → List ℕ → Type 0
IsLastImage image last = (bytes : List ℕ) → image ≡ Some bytes → last ≡ bytes

-- the machine before the first step
abbrev pub kept_start : KeptRun → State
kept_start kept = start_of kept.last_image kept.settings.tape kept.settings.quirks

-- the machine after a number of steps
abbrev pub machine_after : KeptRun → ℕ → State
machine_after kept step = run step_of kept.settings.rate (held kept.keys) (kept_start kept) step

-- the first step below the reach that is affected if a new image replaces the last one
abbrev pub first_affected : KeptRun → List ℕ → ℕ
first_affected kept image =
    affected touches step_of kept.settings.rate (held kept.keys) kept.last_image image
    (kept_start kept) kept.reach

-- a new image keeps the run before the first affected step; if the lines have no image, they keep
-- the whole run
pub record FollowsImage (image : Option (List ℕ)) (old new : KeptRun) : Type 0 where
  pub last_image : new.last_image ≡ unwrap_or image old.last_image
  pub with_image : OnSome image (first_affected old new.last_image ≤ new.reach)
  pub without_image : IfNone image (old.reach ≤ new.reach)

-- an edit of the key events at a step keeps the run before that step
pub record FollowsEvent (step : ℕ) (old new : KeptRun) : Type 0 where
  pub last_image : new.last_image ≡ old.last_image
  pub reach : min old.reach step ≤ new.reach

-- How a question about a step changes the reach and the number of executed steps. Neither number
-- falls; only steps after the last usable checkpoint are executed; and the run reaches the step if
-- the question is answered.
pub record ReachesStep {A E : Type 0} (step : ℕ) (result : Result A E)
    (old new : KeptRun) : Type 0 where
  pub kept : old.reach ≤ new.reach
  pub reached : OnOk result (step ≤ new.reach)
  pub made : old.ran ≤ new.ran
  pub steps : OnOk result (new.ran
      ≤ old.ran + (step - old.settings.spacing * (min old.reach step / old.settings.spacing)))

-- neither the reach nor the number of executed steps falls, and the last image stays
pub record RunsOn (old new : KeptRun) : Type 0 where
  pub last_image : new.last_image ≡ old.last_image
  pub reach : old.reach ≤ new.reach
  pub ran : old.ran ≤ new.ran

-- neither the reach nor the number of executed steps changes
pub record StaysPut (old new : KeptRun) : Type 0 where
  pub same_reach : new.reach ≡ old.reach
  pub same_ran : new.ran ≡ old.ran

-- how a question changes a kept run; a question without a step changes neither number
abbrev pub Reuses : {A E : Type 0} → Option ℕ → Result A E → KeptRun → KeptRun → Type 0
Reuses (Some step) result old new = ReachesStep step result old new
Reuses None result old new = StaysPut old new

-- a refused question changes neither number, unless memory ran out
abbrev pub StaysIfRefused : {A : Type 0} → Result A Refusal → KeptRun → KeptRun → Type 0
StaysIfRefused result old new = IfErr result (λ e. e ≢ AnswerMemory → StaysPut old new)
