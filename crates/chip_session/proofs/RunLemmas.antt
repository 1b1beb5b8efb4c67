-- The states of a replay that belongs to a kept run.
use Rattle.std.proofs.Common.{◌≡◌, List, ℕ, refl}
use Rattle.chip_machine.specs.State.{State}
use Rattle.chip_replay.specs.History.{History}
use Rattle.chip_trace.specs.Lines.{states_of}
use Rattle.chip_session.specs.Kept.{machine_after}
use Rattle.chip_session.specs.Settings.{SessionSettings}
use Rattle.chip_session.specs.inner.InStep.{Replays, kept_run}

pub states_are : (settings : SessionSettings) (replay : History State) (last : List ℕ) → Replays settings last replay → states_of replay ≡ machine_after (kept_run settings replay last)
states_are settings replay last r = rw (r.start, r.rate) refl
