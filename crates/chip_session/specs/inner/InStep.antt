-- How the parts of a kept run fit together, for the private type that contains them (chosen by this
-- project).
use Rattle.std.specs.Prelude.{◌≡◌, ℕ, ◌≤◌, List, length, Option, Result}
use Rattle.chip_lang.specs.declared.limits.TheConstants.{IMAGE_BYTES}
use Rattle.chip_machine.specs.State.{State}
use Rattle.chip_machine.specs.Start.{start_of}
use Rattle.chip_replay.specs.History.{History}
use Rattle.chip_replay.specs.Keys.{Events}
use Rattle.chip_session.specs.Settings.{SessionSettings}
use Rattle.chip_session.specs.Kept.{KeptRun, FollowsEvent, Reuses, StaysIfRefused}
use Rattle.chip_session.specs.declared.refusal.Refusal.{Refusal}

-- the kept run built from these parts
abbrev pub kept_run : SessionSettings → History State → List ℕ → KeptRun
kept_run settings replay last =
    record {
      settings = settings;
      keys = replay.keys;
      last_image = last;
      reach = replay.reach;
      ran = replay.ran;
    }

-- the replay starts from the last image, with the session's rate and spacing
pub record Replays (settings : SessionSettings) (last : List ℕ)
    (replay : History State) : Type 0 where
  pub start : replay.start ≡ start_of last settings.tape settings.quirks
  pub rate : replay.rate ≡ settings.rate
  pub spacing : replay.spacing ≡ settings.spacing
  pub fits : length last ≤ IMAGE_BYTES

-- the replay runs the last image, and the buffer is large enough for any image
pub record IsInStep (settings : SessionSettings) (replay : History State) (last : List ℕ)
    (room : ℕ) : Type 0 where
  pub replays : Replays settings last replay
  pub roomy : IMAGE_BYTES ≤ room

-- the run uses these key events from now on, which agree with the old ones before this step
pub record TakesEvents (events : Events) (step : ℕ) (old new : KeptRun) : Type 0 where
  pub keys : new.keys ≡ events
  pub follows : FollowsEvent step old new
  pub settings : new.settings ≡ old.settings
  pub ran : new.ran ≡ old.ran

-- only the reach and the number of executed steps may change
pub record RunsOnly (old new : KeptRun) : Type 0 where
  pub settings : new.settings ≡ old.settings
  pub keys : new.keys ≡ old.keys
  pub last_image : new.last_image ≡ old.last_image

-- how a question changes a run, which continues only as far as the question needs
pub record GoesOn {A : Type 0} (step : Option ℕ) (result : Result A Refusal)
    (old new : KeptRun) : Type 0 where
  pub only : RunsOnly old new
  pub reuses : Reuses step result old new
  pub refused : StaysIfRefused result old new
